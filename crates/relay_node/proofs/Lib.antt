pub mod Answered
pub mod Assembly
pub mod Assembled
pub mod Sums
pub mod Mixes
pub mod Heads
pub mod Relays
pub mod Packets
