pub mod Zero
pub mod Taking
pub mod Stands
pub mod Playing
pub mod Starting
pub mod Hearing
