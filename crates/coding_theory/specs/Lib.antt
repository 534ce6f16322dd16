pub mod Paths
pub mod Coding
pub mod Rule
pub mod Promise
