pub mod Sizes
pub mod Steps
pub mod Groups
pub mod Kept
pub mod Described
pub mod Values
pub mod Rest
pub mod Formed
pub mod Orders
pub mod Tuples
mod Prefixes
mod Cuts
mod Counts
