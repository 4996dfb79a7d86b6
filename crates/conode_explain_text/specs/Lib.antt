pub mod Columns
pub mod Dates
pub mod Lines
pub mod Said
pub mod SoFar
pub mod Stamps
