pub mod Examples
pub mod LineExamples
mod OrderLemmas
pub mod Steps
