pub mod Days
mod Digits
mod Forms
mod Laws
mod Numerals
mod ReadBack
mod Shortest
mod Spans
mod Splits
mod Texts
mod Worked
