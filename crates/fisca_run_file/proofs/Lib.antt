pub mod Counted
pub mod Grouped
pub mod Lefts
pub mod Valued
mod Worked
mod WorkedOverlaps
