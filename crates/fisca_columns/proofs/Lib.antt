pub mod Backwards
pub mod Cells
pub mod Cuts
pub mod Numerals
pub mod ReadBack
pub mod Readings
pub mod Worked
pub mod WorkedColumns
mod WorkedLines
