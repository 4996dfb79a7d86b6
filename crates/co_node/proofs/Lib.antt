pub mod Runs
pub mod Builds
pub mod Greatest
pub mod Held
pub mod Dictionaries
pub mod Refused
pub mod Memory
mod Begins
mod BuiltExamples
mod SetByFrames
