pub mod Runs
pub mod Four
pub mod Turns
pub mod Cost
pub mod Fitting
pub mod Bounds
pub mod Accepted
pub mod Samples
