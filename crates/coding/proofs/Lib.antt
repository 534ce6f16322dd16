pub mod Choosing
pub mod Linked
pub mod Turns
pub mod Receivers
pub mod Passes
pub mod Advance
pub mod Ended
