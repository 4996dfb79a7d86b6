pub mod Changes
mod DriveExamples
mod ErrorExamples
mod Examples
mod NodeExamples
mod Nothing
mod StateExamples
mod Tables
