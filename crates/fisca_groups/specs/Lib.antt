pub mod Grouped
pub mod Homes
pub mod Lookup
pub mod Rosters
pub mod Steps
