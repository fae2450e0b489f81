pub mod MoveFile
pub mod Whole
