pub mod Files
pub mod Marked
mod NamedTests
pub mod Normal
pub mod OfFiles
pub mod OfPositions
pub mod Positions
pub mod Reading
pub mod Said
pub mod Situated
pub mod Within
