pub mod InForce
pub mod Simulations
pub mod Told
