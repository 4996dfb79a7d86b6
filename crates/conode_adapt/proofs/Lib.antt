mod ListingExamples
mod WrittenLemmas
mod LoopLemmas
mod NoSheetExamples
