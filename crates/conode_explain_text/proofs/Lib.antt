pub mod ColumnLemmas
pub mod DigitTable
pub mod Examples
pub mod LineLemmas
pub mod PairTable
pub mod PlainTable
pub mod SaidLemmas
pub mod StampLemmas
