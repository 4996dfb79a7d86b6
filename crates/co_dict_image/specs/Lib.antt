pub mod Images
pub mod LawfulImages
pub mod Ranges
pub mod Slots
