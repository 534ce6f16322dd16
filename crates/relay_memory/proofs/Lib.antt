pub mod Parts
pub mod Memory
pub mod Steps
pub mod Ends
pub mod Answered
