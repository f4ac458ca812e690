pub mod First
pub mod Noted
pub mod Places
