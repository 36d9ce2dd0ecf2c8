mod Seen
pub mod Sharing
