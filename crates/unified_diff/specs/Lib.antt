-- what a reader has to believe
pub mod FullLines
pub mod Hunks
pub mod Names
pub mod DiffText
pub mod UnifiedDiff
-- what serves clauses inside the crate
pub mod Edits
