pub mod CutLemmas
pub mod LoopLemmas
mod CompactLemmas
mod PlanLemmas
mod BuildLineExamples
mod KnownExamples
mod KnownWarningExamples
