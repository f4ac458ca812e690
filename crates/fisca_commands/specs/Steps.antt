pub mod CalcLines
pub mod ManyTests
