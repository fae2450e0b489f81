pub mod Bench
pub mod Printed
