pub mod Contents
pub mod Histories
pub mod LearnedValues
pub mod Versions
pub mod Warnings
pub mod WrittenContents
