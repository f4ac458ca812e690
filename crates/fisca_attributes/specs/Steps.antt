pub mod AttributeForms
pub mod EntityForms
pub mod Values
