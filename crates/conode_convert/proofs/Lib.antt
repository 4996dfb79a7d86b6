pub mod Converting
mod CutExamples
mod Examples
pub mod Seconds
