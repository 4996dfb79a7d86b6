pub mod Beaten
pub mod Changes
pub mod Counting
pub mod Distinct
pub mod Eights
mod EmergencyExamples
pub mod EmergencyLaws
mod Examples
pub mod Failed
mod FailureExamples
pub mod Grouped
mod GuardingExamples
mod HeartbeatExamples
pub mod Loaded
pub mod NodeEvents
mod NodeExamples
pub mod Noded
pub mod Places
pub mod Sent
pub mod Tallied
