pub mod Build
pub mod Clashes
pub mod InForce
pub mod Passes
pub mod Rules
pub mod Seen
