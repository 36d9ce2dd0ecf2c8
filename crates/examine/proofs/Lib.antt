mod Header
mod Entries
mod Bodies
mod Examined
