mod AtOnce
mod AxisValues
mod Begun
mod Came
mod Counting
mod First
pub mod Fitting
mod Gone
mod Headline
mod Lacking
pub mod Numbers
mod OnTheWay
mod Passing
mod Placing
mod PlainRuns
pub mod Ranged
mod Stepping
mod Still
pub mod Telling
