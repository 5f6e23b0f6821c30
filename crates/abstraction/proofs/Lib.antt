pub mod Folding
pub mod Reading
pub mod Names
pub mod Promised
pub mod Fits
pub mod Passing
pub mod Making
