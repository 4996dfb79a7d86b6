mod CycleExamples
mod Examples
pub mod OtherFrames
mod RpdoExamples
