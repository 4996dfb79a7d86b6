pub mod Indices
pub mod Keys
pub mod FixedTypes
pub mod TransmissionTypes
pub mod PdoNumbers
