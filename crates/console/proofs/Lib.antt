pub mod Side
pub mod Text
