mod Countdowns
mod Sendings
mod Entries
mod Slots
mod StateExamples
mod HeartbeatExamples
pub mod Idles
mod EmergencyExamples
mod SlotExamples
