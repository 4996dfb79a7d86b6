pub mod SameSettings
pub mod EventAnswers
pub mod ResetsOfAll
pub mod BootUps
pub mod Below
pub mod Writes
pub mod Calls
pub mod Received
pub mod Schedules
mod Examples
mod MarkLemmas
pub mod Counts
pub mod FewAnswers
pub mod FewExchanged
pub mod Bounds
pub mod HeldBytes
pub mod Ticks
pub mod HeartbeatDistances
pub mod EmergencyDistances
pub mod LossDistances
pub mod ValuesNow
pub mod TpdoDistances
pub mod RpdoWaits
pub mod RpdoLast
pub mod ByKind
pub mod ByKindLaws
mod ByKindExamples
mod ChangesExamples
mod DistanceExamples
mod PartsExamples
pub mod Kept
pub mod Idles
pub mod Changed
pub mod Resets
pub mod SetExactly
mod KeptMappings
mod KeptAddresses
pub mod Channel
pub mod Requests
pub mod InTurns
pub mod Apart
mod ApartExamples
pub mod Segmented
