pub mod Flat
pub mod Fits
