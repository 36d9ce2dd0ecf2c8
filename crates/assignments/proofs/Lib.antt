pub mod Sets
pub mod Picks
pub mod Best
pub mod Cheaper
pub mod Enumerated
pub mod Outside
