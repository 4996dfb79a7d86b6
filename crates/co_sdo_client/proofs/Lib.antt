pub mod Reports
mod DownloadExamples
mod UploadExamples
pub mod EventLemmas
pub mod StageLemmas
pub mod TakeLemmas
