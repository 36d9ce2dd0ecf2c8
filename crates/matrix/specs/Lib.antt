pub mod Build
pub mod Stated
