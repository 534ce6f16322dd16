pub mod Polynomial
pub mod Laws
pub mod Field
pub mod Sum
