pub mod Fold
pub mod Folds
pub mod Made
pub mod Make
pub mod Same
