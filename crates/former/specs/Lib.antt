pub mod File
pub mod Faults
pub mod Answers
pub mod Calls
pub mod Searches
pub mod Trials
