pub mod Marks
pub mod Reading
pub mod Signs
pub mod Spelling
pub mod Steps
pub mod Views
