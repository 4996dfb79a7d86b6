-- What the crate's own functions promise one another; no public contract rests on these.
pub mod Views
