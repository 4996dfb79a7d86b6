mod Examples
mod Edges
mod TypeCodeExamples
mod LargeSheet
mod TypeLemmas
pub mod Words
mod LeastLemmas
mod FindingLemmas
mod EntryReadingLemmas
mod ListLemmas
pub mod ListingLemmas
pub mod TwiceLemmas
mod ListReadingLemmas
mod ObjectReadingLemmas
mod OrderLemmas
mod PartLemmas
mod FirstLemmas
mod ContentLemmas
mod AcceptedLemmas
mod PlaceLemmas
pub mod KeyLemmas
mod EachEntryLemmas
mod SheetLawLemmas
mod ViewLemmas
mod ConfigurationExamples
mod SheetLawExamples
mod PlaceExamples
