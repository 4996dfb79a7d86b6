pub mod LineLemmas
mod OriginalLemmas
mod OriginalExamples
mod RequestExamples
mod LimitExamples
pub mod Finds
pub mod SearchedKeys
pub mod Utf8
