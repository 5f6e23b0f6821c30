pub mod Digits
pub mod Starting
