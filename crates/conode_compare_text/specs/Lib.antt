pub mod Beside
pub mod ChoiceTexts
pub mod FindingTexts
pub mod LearnedTexts
pub mod Tallies
pub mod Values
pub mod WarningTexts
