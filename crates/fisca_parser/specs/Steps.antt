pub mod Forms
pub mod Headings
pub mod Lines
pub mod Shapes
pub mod Starts
