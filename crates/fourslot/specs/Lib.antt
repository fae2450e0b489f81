pub mod Tags
pub mod Theorem
pub mod Wrong
