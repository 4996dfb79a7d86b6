pub mod JsonExamples
pub mod RetypedLemmas
mod Grouped
mod ShownExamples
