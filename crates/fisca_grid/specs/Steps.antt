pub mod Axes
pub mod AxesRow
pub mod Condition
pub mod NamedAxes
pub mod Turning
pub mod Words
