pub mod Fixed
pub mod Forms
pub mod LineForms
