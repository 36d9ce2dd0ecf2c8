pub mod Running
pub mod Recount
pub mod Cases
