pub mod Content
pub mod FaultLines
pub mod Files
pub mod Lookup
pub mod Paths
pub mod Tree
