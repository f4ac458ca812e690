pub mod Ascii
pub mod Beside
pub mod Cut
pub mod CutMarks
pub mod CutPieces
pub mod Steps
pub mod Worked
