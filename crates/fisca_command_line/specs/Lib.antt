pub mod Asked
pub mod CommandLine
pub mod Misuse
pub mod Work
