mod Finds
mod Parameters
mod Tables
mod Data
mod Receptions
mod Raised
mod Taken
mod Words
mod Numbers
mod Sent
mod Steps
mod LastExamples
mod SetExamples
pub mod Idles
mod Slots
mod Found
