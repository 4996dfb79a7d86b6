pub mod Appended
mod Examples
mod FailureExamples
pub mod Listed
pub mod NodeExamples
mod PaceExamples
mod PageExamples
mod SilenceExamples
pub mod Sorted
