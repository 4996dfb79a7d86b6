pub mod Asc
pub mod Logs
pub mod Screen
pub mod Trc
