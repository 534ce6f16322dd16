pub mod Events
pub mod Round
