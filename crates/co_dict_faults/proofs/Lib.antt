mod EachLemmas
mod Examples
mod FirstLemmas
mod FoundLemmas
pub mod MappingLemmas
mod OrderLemmas
mod PieceLemmas
mod ReasonCounts
mod ReasonLemmas
mod RowLemmas
