pub mod Loop
pub mod Laws
pub mod Bounds
pub mod Bytes
pub mod Exactly
pub mod Forms
pub mod Parts
pub mod Handed
