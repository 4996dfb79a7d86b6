mod AbortExamples
mod AcceptedExamples
pub mod AbortLemmas
pub mod AssumedLemmas
pub mod Explaining
mod ChangeExamples
mod FilterExamples
mod InterfaceExamples
pub mod LogLemmas
pub mod NodeDigitsTable
pub mod NodeExamples
mod OwnWordExamples
pub mod ServiceLemmas
pub mod SheetExamples
mod StatusExamples
pub mod StatusLemmas
pub mod TellingLemmas
mod WhoseExamples
pub mod WhoseLemmas
pub mod WriteLemmas
pub mod WriteSets
