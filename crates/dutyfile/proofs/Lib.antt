pub mod Rising
pub mod Entries
pub mod Facts
pub mod Costs
pub mod Marks
pub mod Columns
pub mod Round
pub mod Front
