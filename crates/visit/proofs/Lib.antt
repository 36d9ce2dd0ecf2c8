pub mod Full
pub mod Settling
