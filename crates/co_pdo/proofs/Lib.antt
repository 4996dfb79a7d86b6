mod Counts
mod Logs
mod Lists
mod Built
mod Numbers
mod Histories
pub mod Idles
mod Words
mod Parts
mod Written
mod Actives
mod TpdoExamples
mod ScheduleExamples
mod MappingExamples
mod ImageExamples
