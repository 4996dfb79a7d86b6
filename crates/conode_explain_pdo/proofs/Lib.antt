mod AssumedExamples
mod EntryWordExamples
mod Examples
pub mod Parts
pub mod Words
