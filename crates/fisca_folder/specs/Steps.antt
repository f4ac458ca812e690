pub mod Folder
pub mod PlainTexts
pub mod RulePaths
pub mod Shown
