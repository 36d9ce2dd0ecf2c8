mod Putting
pub mod Given
mod Order
pub mod Demand
