pub mod Message
pub mod Reply
pub mod TextLines
