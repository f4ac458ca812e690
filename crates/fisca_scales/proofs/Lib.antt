pub mod BracketMaps
pub mod DateMaps
pub mod Days
pub mod Latest
pub mod Thresholds
pub mod Worked
