pub mod KeyHashes
