pub mod Lists
pub mod Order
pub mod Counts
pub mod Search
pub mod Augment
pub mod Follow
pub mod NotBoth
pub mod Stands
