pub mod Steps
pub mod Whole
pub mod Forms
