pub mod Relay
pub mod Law
pub mod Mapped
