pub mod Compared
pub mod Each
pub mod Moved
pub mod Numerators
pub mod Selected
pub mod Vectors
