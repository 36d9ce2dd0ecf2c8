mod Loops
mod Filling
mod Walking
