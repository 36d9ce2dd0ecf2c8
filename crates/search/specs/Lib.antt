-- The search call of 01, the longest-duty search call as P1 had it and both with agreed and absent columns as P2 had them; both with what a
-- desk asks besides, as they are now and as P8 had them; and both as one.
pub mod Searching
pub mod Longest
pub mod Requests
pub mod Goals
pub mod Agreed
pub mod Unstruck
pub mod EarningCases
