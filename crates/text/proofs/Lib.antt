pub mod Lines
pub mod Events
pub mod Placings
pub mod Texts
pub mod Logs
pub mod Front
