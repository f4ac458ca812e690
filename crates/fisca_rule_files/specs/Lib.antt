pub mod Check
pub mod Ending
pub mod Listing
pub mod Modules
pub mod Refusal
pub mod RuleFiles
pub mod Steps
