pub mod Handed
mod Items
mod OneTest
mod OutputLines
pub mod ReadTests
pub mod Reports
mod Refused
mod Stopped
mod VerdictTexts
mod Worked
mod WorkedVerdicts
