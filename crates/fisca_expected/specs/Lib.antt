pub mod Faults
pub mod Outcomes
pub mod Outputs
pub mod Reading
pub mod Steps
pub mod Views
