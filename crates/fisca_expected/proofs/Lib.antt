pub mod Counts
pub mod Names
pub mod Places
mod Kept
mod Worked
