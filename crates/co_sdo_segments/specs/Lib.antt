pub mod BufferContent
pub mod Sent
pub mod Taken
