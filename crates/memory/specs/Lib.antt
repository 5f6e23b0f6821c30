pub mod Columns
pub mod Failures
