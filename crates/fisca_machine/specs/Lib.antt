pub mod Plans
pub mod Running
pub mod Steps
pub mod Weights
pub mod Context
