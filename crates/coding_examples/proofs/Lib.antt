pub mod Premises
pub mod Worked
