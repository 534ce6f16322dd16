pub mod Network
pub mod Links
pub mod Format
pub mod Faults
pub mod Values
