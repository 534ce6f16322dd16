pub mod Given
pub mod Routes
pub mod Readers
pub mod Main
pub mod Inside
pub mod Fitting
