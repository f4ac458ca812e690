pub mod KeyHashes
pub mod Steps
