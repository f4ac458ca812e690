pub mod Characters
pub mod Deeper
pub mod Lines
pub mod Rows
pub mod Scalars
pub mod Steps
