pub mod Reading
pub mod Writing
pub mod Forms
pub mod Fits
pub mod HeadForms
pub mod HeadSteps
pub mod HeadBytes
pub mod HeadPlaces
