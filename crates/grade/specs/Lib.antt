pub mod Limits
pub mod Reading
