pub mod Answers
pub mod Chains
pub mod Codes
pub mod Dialogues
pub mod Inquiry
pub mod Keys
pub mod Stacks
