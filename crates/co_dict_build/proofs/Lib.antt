mod BuildExamples
pub mod Changes
mod CobIdKeys
pub mod EntryBytes
mod Faults
pub mod GreatestCapacity
mod InitialLemmas
pub mod Roomless
mod ListExamples
mod PairLaws
pub mod Numbering
mod Pairs
pub mod Places
pub mod Plans
mod Ranges
pub mod Readiness
mod RowExamples
pub mod Search
