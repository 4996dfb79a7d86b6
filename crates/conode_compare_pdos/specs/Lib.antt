pub mod Identifiers
pub mod SheetNumbers
pub mod PdoParameters
pub mod Cycles
pub mod Tpdos
pub mod Deviations
pub mod Followed
pub mod Rpdos
