pub mod Behind
pub mod Elements
pub mod Kept
pub mod Members
pub mod Outcomes
pub mod Shapes
