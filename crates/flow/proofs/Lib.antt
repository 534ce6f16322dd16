pub mod Turned
pub mod Followed
pub mod Served
