pub mod Bytes
pub mod Numbers
pub mod Reals
pub mod Times
pub mod Types
pub mod Unicode
pub mod Values
