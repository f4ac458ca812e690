pub mod Arguments
pub mod Counts
pub mod Locals
pub mod Parameters
pub mod Steps
