pub mod Came
pub mod Delivers
