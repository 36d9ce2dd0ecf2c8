mod Low
mod Seen
