mod Tally
mod Criteria
mod Row
mod Rows
pub mod Picked
pub mod Without
