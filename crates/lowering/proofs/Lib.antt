mod Lowered
mod Looped
