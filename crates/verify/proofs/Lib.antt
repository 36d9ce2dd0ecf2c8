pub mod Totals
mod Sums
mod Counting
mod Walk
pub mod Verdicts
pub mod Meaning
