mod CobIdExamples
mod MappingExamples
mod OwnRuleExamples
mod RefusalExamples
mod StoreExamples
pub mod CountLemmas
pub mod ExampleDevice
pub mod GreatestCapacity
pub mod ObjectLemmas
pub mod PlaceLemmas
pub mod StoreLemmas
mod WriteLemmas
pub mod PushLemmas
