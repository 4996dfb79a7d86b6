mod EndExamples
pub mod Examples
pub mod JsonExamples
pub mod JsonLemmas
pub mod NoPlaces
mod PlaceExamples
pub mod Readings
pub mod ToneExamples
