pub mod Dates
pub mod Names
pub mod Scale
pub mod Sorted
pub mod Steps
pub mod Tally
