pub mod Drafts
pub mod Faults
pub mod Groups
pub mod Members
pub mod Persons
pub mod Sections
