pub mod Apart
pub mod Asking
pub mod Finds
pub mod Fitting
pub mod Memories
pub mod Outcomes
pub mod Planning
pub mod Recalls
pub mod Remembering
pub mod Risen
pub mod Stamped
pub mod Turning
pub mod Wheel
mod WorkedCounting
pub mod Working
