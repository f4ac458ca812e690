pub mod DateMaps
mod EachFile
pub mod Indexed
pub mod Ordered
mod Origins
pub mod PathTexts
pub mod Refusals
mod Standing
pub mod Texts
pub mod Walks
pub mod WorkedTrees
mod Made
