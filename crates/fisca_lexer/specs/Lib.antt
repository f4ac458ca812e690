pub mod Cuts
pub mod Layout
pub mod Pieces
pub mod Steps
pub mod Texts
pub mod Tokens
