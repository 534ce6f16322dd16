pub mod Steps
pub mod Values
pub mod Records
pub mod NodeErrors
pub mod Nodes
pub mod Assembly
pub mod Relays
pub mod Packets
