pub mod Find
pub mod Grouping
pub mod Leaves
