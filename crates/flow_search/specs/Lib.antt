pub mod Rows
pub mod Queue
