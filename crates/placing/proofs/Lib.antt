pub mod Bytes
pub mod Rows
pub mod Scans
pub mod Whole
pub mod Words
pub mod Judgements
pub mod Told
pub mod Wrong
