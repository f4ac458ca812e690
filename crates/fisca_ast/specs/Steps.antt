pub mod Contents
pub mod Groups
pub mod Strings
pub mod Words
