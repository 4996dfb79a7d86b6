pub mod ExampleTexts
mod ListExamples
mod KeyExamples
mod InfoExamples
mod LineExamples
mod SectionNameExamples
pub mod PieceLemmas
pub mod KnownLemmas
mod IndexLemmas
mod KeyLemmas
mod LineLemmas
