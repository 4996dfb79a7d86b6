pub mod LinesAtFault
pub mod Soundness
pub mod AllChecks
pub mod AllFaults
pub mod FaultOrder
pub mod FaultLaws
pub mod FaultWords
pub mod private
