pub mod Dates
pub mod Lowest
pub mod Scale
pub mod Tally
