mod ChangeExamples
mod Examples
pub mod Faults
pub mod Places
pub mod Readings
