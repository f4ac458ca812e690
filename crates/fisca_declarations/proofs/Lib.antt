pub mod Came
pub mod DatedFormulas
pub mod LineByLine
pub mod Named
pub mod Steps
