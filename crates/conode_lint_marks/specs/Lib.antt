pub mod Lines
pub mod BuildLines
pub mod Concerns
pub mod AtFault
pub mod Doubts
pub mod KnownFaults
pub mod KnownWarnings
pub mod Beside
