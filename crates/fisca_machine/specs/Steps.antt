pub mod Plans
pub mod Running
