pub mod Cells
pub mod Counted
pub mod Named
