pub mod Signs
pub mod Exact
