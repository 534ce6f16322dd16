pub mod Aims
pub mod Served
pub mod State
pub mod Passing
pub mod Decoding
pub mod Meaning
