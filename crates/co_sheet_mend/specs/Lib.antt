pub mod ReadableTexts
pub mod Repairs
pub mod NameLaws
