pub mod Plan
pub mod Format
pub mod Faults
pub mod Values
pub mod Fitted
