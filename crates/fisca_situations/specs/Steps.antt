pub mod Axes
pub mod Cuts
pub mod Reading
pub mod Situations
pub mod Slots
pub mod Values
pub mod Views
