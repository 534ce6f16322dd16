pub mod Carries
pub mod Finds
pub mod Stages
pub mod Runs
pub mod Rest
