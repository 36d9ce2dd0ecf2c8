-- Of lists,
mod Sums
mod Members
-- of the loops that build the list,
pub mod Putting
mod Covered
mod Collected
-- of the list that is built,
mod Parts
mod Laid
mod Listing
-- of the matrix of an accepted file,
pub mod Accepted
-- and of its costs in a search.
pub mod Raised
