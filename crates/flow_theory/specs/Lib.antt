pub mod Flow
pub mod Order
pub mod Promise
