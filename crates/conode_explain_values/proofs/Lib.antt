mod Examples
pub mod Powers
mod RealExamples
pub mod RealLaws
pub mod RealLemmas
