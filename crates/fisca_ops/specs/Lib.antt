pub mod Casts
pub mod Ended
pub mod Parts
pub mod Persons
pub mod Steps
pub mod Totals
