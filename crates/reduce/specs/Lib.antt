pub mod Room
pub mod Answer
