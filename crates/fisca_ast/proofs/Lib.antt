pub mod ContentPieces
pub mod InQuotes
pub mod Inside
