pub mod Among
mod Beside
mod BuiltTables
pub mod Clash
pub mod Confused
mod Defaults
pub mod Each
pub mod Fitting
mod FoundMembers
mod Lined
pub mod Meet
mod Named
pub mod Repeated
mod Safe
pub mod Scans
pub mod Search
pub mod Some
pub mod Walk
pub mod Worked
mod WorkedRules
