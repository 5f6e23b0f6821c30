pub mod Weighted
pub mod Fit
pub mod Map
