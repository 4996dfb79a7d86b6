pub mod LineLemmas
pub mod PieceLemmas
pub mod ReadingLemmas
pub mod Readers
pub mod TextLemmas
pub mod Examples
pub mod Passing
pub mod WindowLemmas
