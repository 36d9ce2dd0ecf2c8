pub mod Read
pub mod Loading
