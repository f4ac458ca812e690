pub mod Lines
pub mod VariableForms
