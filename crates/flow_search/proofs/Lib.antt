pub mod Made
pub mod Listed
pub mod Queued
pub mod Visited
pub mod Searched
