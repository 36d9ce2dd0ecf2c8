mod Filled
mod Rooms
