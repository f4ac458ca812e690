pub mod Layout
pub mod Marks
pub mod Pieces
pub mod Texts
pub mod Tokens
