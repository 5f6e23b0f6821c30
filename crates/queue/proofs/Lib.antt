mod Sifting
pub mod Columns
pub mod Shuffles
mod Runs
