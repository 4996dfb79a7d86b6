pub mod Changes
pub mod Conditions
pub mod Filters
pub mod Kinds
pub mod Moments
pub mod Subjects
