mod Sums
mod Tally
pub mod Recounted
pub mod Running
