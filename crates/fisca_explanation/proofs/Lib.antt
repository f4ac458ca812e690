pub mod Lines
pub mod Answered
pub mod Different
pub mod Depths
pub mod Followed
