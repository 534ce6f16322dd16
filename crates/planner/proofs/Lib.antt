pub mod Routing
pub mod Exact
