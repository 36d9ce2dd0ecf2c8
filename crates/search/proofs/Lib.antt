mod Paired
mod Ranges
mod Listed
-- Demand 3, of what passes its tests.
pub mod Demanded
mod Called
-- Lists with nothing in common give the answers of before, and so do empty ones.
pub mod Struck
pub mod Unasked
-- The criteria of reducing change neither none nor the price of best.
pub mod Comparisons
