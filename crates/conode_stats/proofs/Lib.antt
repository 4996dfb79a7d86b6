pub mod Counting
mod JsonExamples
pub mod LogLemmas
mod StatusExamples
pub mod StatusLemmas
