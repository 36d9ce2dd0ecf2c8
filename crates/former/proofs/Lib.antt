-- Two outcomes that agree, and the lists that they fill.
mod Outcomes
-- The tests of a file, and the lists that it holds.
pub mod Files
-- The reader, the plan check, the desk and the reducing call.
pub mod Calls
-- The writer.
pub mod Writer
-- The searches and the program.
pub mod Searches
-- Which sailings can't be crewed.
pub mod Trials
