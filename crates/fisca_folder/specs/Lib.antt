pub mod Shown
pub mod Folder
pub mod FolderSteps
pub mod Layers
pub mod LayerLaws
pub mod Steps
