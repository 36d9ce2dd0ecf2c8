mod Tests
mod Answers
pub mod Outside
mod Cases
