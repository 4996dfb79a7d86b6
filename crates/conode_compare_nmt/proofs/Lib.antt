mod BeginExamples
pub mod ChangedPeriodExamples
pub mod ClientExamples
pub mod Examples
pub mod LeavingExamples
mod SheetExamples
pub mod StateExamples
