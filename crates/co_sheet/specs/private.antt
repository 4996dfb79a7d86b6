-- What the crate's own functions promise one another; no public contract rests on these.
pub mod Findings
pub mod LeastFaults
pub mod EntryReadings
pub mod ListReadings
pub mod ObjectReadings
pub mod SheetReadings
