pub mod Renewal
pub mod Extension
pub mod Places
pub mod AtHand
pub mod First
