mod Filled
mod Called
pub mod Prices
