mod Puts
mod Whole
