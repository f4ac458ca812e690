pub mod CalcFitting
mod Calculated
mod Endings
mod ExplainedBy
mod LineWritten
mod LinesPassed
mod LinesReady
mod Listed
mod Named
mod Ranged
mod Telling
mod Tested
mod TestsPassed
pub mod NamedKeys
