mod DownloadExamples
mod UploadExamples
mod BlockDownloadExamples
pub mod ExampleChannel
pub mod StoreLemmas
pub mod Logs
pub mod RefusalLemmas
pub mod Initiations
pub mod Continuations
pub mod BlockContinuations
pub mod SubBlockLemmas
pub mod RoomLemmas
pub mod TakeLemmas
pub mod Idles
mod Searches
mod Numbers
mod Changes
mod Places
mod Outcomes
mod Permitted
mod Examples
pub mod BankIdles
