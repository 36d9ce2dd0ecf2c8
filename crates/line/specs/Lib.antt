pub mod Line
pub mod Put
