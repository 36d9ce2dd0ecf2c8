pub mod Trials
pub mod Told
pub mod Cases
