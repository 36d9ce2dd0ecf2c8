pub mod Verdict
pub mod Counts
