pub mod Appended
mod Examples
pub mod Faultless
