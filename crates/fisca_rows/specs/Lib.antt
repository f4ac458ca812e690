pub mod Asked
pub mod Conditions
pub mod FormedLines
pub mod Going
pub mod Lines
pub mod Met
pub mod Outcomes
pub mod Steps
