mod Passing
mod Settling
