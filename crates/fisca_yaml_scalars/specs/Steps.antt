pub mod Openings
pub mod Rows
pub mod Scalars
