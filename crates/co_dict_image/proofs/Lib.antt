pub mod Appends
pub mod Entries
pub mod Puts
pub mod Rooms
