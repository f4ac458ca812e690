pub mod EntityForms
pub mod Fields
pub mod Steps
pub mod Values
