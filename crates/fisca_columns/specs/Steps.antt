pub mod Calc
pub mod Columns
pub mod Places
pub mod Texts
pub mod Written
