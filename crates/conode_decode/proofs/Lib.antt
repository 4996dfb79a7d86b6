pub mod Decoding
pub mod Examples
pub mod Stopped
