pub mod Finds
pub mod Receives
pub mod Law
pub mod Mapped
