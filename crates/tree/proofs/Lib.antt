pub mod Settles
pub mod Choosing
mod Tables
pub mod Sides
mod Walking
