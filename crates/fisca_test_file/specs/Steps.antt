pub mod Faults
pub mod Tests
pub mod Verdicts
