pub mod Byte
pub mod Packet
pub mod Vector
