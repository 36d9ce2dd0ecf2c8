mod Running
mod Called
