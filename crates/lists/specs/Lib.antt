pub mod Places
pub mod Loaded
