mod FirstModule
pub mod ListedLines
mod Telling
pub mod Built
mod DayTexts
