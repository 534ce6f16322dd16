pub mod Pigeonhole
pub mod Numbering
pub mod Crossing
pub mod Across
