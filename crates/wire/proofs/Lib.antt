pub mod Parsing
pub mod Codecs
pub mod Served
pub mod Cut
pub mod Whole
pub mod Fitting
pub mod Made
pub mod Reading
