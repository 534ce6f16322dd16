pub mod Taking
pub mod Pass
pub mod Open
pub mod Close
pub mod Cross
pub mod Start
pub mod Read
