pub mod Vectors
pub mod Independence
pub mod Lowest
pub mod Dual
pub mod Transport
pub mod Reading
pub mod Choice
