mod Columns
mod Bodies
mod Tested
