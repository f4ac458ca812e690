pub mod Elements
pub mod Formulas
pub mod Questions
pub mod Rows
pub mod Steps
pub mod Views
