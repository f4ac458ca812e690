pub mod FormulaLines
pub mod Lines
pub mod Steps
pub mod VariableForms
