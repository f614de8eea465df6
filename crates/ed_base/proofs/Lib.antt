pub mod BufferRows
pub mod LineLemmas
pub mod Letters
pub mod PartLemmas
pub mod PieceLemmas
pub mod SortedLemmas
