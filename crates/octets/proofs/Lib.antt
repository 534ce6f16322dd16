pub mod Reading
pub mod Words
pub mod Locality
