mod CompiledExamples
mod Limits
mod Parameters
mod Parts
mod SetExamples
pub mod Props
