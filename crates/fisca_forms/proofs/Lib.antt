pub mod Digits
pub mod Names
pub mod Near
