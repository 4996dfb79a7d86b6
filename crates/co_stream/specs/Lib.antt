pub mod Faults
pub mod Asked
pub mod Lines
pub mod Readings
pub mod Texts
pub mod Nexts
pub mod Held
pub mod Founds
