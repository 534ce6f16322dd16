pub mod Rows
pub mod Products
pub mod Carriers
