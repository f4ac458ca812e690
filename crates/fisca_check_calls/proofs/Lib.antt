pub mod Counted
pub mod Keywords
pub mod Latest
pub mod OneKind
pub mod Rows
pub mod Scales
pub mod Selected
pub mod Shapes
