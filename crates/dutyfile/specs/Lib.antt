pub mod File
pub mod Faults
