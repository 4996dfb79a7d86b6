pub mod Appending
mod FilledLaws
mod Examples
mod UnseenExamples
