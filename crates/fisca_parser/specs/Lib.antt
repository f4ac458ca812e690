pub mod Grammar
pub mod Headings
pub mod Lines
pub mod Reading
pub mod Steps
pub mod Views
