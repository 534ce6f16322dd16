pub mod Augment
pub mod Found
