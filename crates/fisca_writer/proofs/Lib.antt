pub mod Grown
pub mod Walk
pub mod Progress
pub mod Worked
mod Turned
pub mod Remaining
pub mod Ranged
pub mod Shares
pub mod Rising
pub mod Places
pub mod Coming
mod Parts
