pub mod Quotes
pub mod Splits
pub mod Steps
