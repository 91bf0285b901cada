pub mod Words
pub mod Pieces
pub mod Reading
pub mod Fronts
