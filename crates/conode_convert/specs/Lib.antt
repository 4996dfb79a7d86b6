pub mod Converted
pub mod CutOff
pub mod Printed
pub mod Taking
