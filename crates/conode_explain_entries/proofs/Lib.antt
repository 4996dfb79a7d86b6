pub mod Changes
pub mod Examples
mod MovedExamples
pub mod Shown
mod TextExamples
