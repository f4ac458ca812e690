pub mod Check
pub mod Modules
