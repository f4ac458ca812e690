pub mod Added
pub mod Entries
pub mod Gathered
pub mod Memory
pub mod Reads
pub mod Stacks
pub mod Work
