pub mod Indices
pub mod Whole
