pub mod Causes
pub mod EvalFaults
pub mod Groups
pub mod Periods
pub mod Seen
pub mod Tables
pub mod Values
