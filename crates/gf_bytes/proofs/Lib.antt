pub mod Steps
pub mod Table
pub mod Done
