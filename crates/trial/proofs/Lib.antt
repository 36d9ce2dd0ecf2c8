mod Appending
mod Made
