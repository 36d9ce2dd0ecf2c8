pub mod Lower
pub mod Done
