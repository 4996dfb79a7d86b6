pub mod Examples
mod FactExamples
mod SumExamples
mod TypeNameLemmas
