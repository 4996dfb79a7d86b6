pub mod Counts
pub mod Files
pub mod Lines
pub mod Printed
pub mod Runs
pub mod Standing
pub mod Words
