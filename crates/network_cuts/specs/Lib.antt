pub mod Scheme
pub mod Cut
pub mod Across
