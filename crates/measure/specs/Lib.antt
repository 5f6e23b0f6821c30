pub mod Ops
pub mod Total
pub mod Hardest
pub mod TotalSteps
