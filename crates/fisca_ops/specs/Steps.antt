pub mod Casts
pub mod Parts
pub mod Persons
pub mod Totals
