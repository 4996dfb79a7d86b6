mod BlockExamples
pub mod Confirmations
pub mod DataLemmas
pub mod Dialogues
pub mod DoneLemmas
mod FaultExamples
pub mod HeardLemmas
pub mod Kept
mod LateExamples
mod DoubtfulExamples
mod DoubtfulLemmas
mod HearingExamples
mod SegmentedExamples
pub mod Places
mod UnansweredExamples
