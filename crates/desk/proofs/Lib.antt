mod Moves
pub mod Ways
