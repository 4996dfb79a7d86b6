pub mod Ended
pub mod Enumerated
pub mod Firsts
pub mod Pairs
pub mod Reported
mod JsonExamples
mod JunitExamples
mod PageExamples
