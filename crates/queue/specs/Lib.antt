pub mod Linear
pub mod Heap
pub mod Entry
pub mod Run
pub mod Entries
