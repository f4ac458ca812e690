pub mod Below
pub mod Fuel
pub mod KeyFacts
pub mod Paths
pub mod Runs
pub mod WorkedAnswers
