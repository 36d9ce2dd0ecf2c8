pub mod Taking
pub mod Raising
