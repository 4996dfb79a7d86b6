pub mod ExampleTexts
mod WarningExamples
mod SubIndexExamples
mod ListExamples
mod CobIdExamples
mod CommunicationExamples
mod KeyExamples
mod InfoExamples
mod RepeatExamples
mod LineExamples
mod LimitExamples
mod NodeIdSumExamples
mod ReservedValueExamples
mod AccessExamples
mod TypeExamples
mod SectionNameExamples
mod ByLineLemmas
pub mod NameLemmas
mod WordLemmas
mod TypeLemmas
