mod Examples
mod HeldExamples
mod RpdoExamples
pub mod Objects
pub mod Readings
