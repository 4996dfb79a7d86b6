pub mod Choices
pub mod Choosings
pub mod LengthErrors
pub mod Phases
pub mod RefusalCodes
pub mod Requests
pub mod Timeouts
