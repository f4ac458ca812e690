pub mod Explanations
pub mod Listed
