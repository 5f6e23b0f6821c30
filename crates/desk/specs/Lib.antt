pub mod Edits
pub mod Fields
pub mod Numbers
pub mod Pieces
pub mod Words
