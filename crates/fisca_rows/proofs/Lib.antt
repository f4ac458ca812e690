pub mod Asking
mod FormedCells
mod GoingCells
pub mod Places
pub mod Spaces
mod Worked
