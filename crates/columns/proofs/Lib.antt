mod Only
mod Column
mod Columns
pub mod Picked
