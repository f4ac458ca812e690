pub mod Defaults
pub mod Entries
pub mod Inputs
pub mod Order
pub mod Overlaps
pub mod Rules
pub mod Runs
pub mod Sharing
