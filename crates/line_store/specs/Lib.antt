-- what a reader believes
pub mod Marks
pub mod Swaps
pub mod Flagged
pub mod Blocks
pub mod Cut
pub mod Uncut
pub mod Kept
-- what serves clauses inside the crate
pub mod Shifts
pub mod Extents
pub mod Gaps
pub mod Starts
pub mod Chunks
pub mod BlockKinds
pub mod Runs
pub mod Lettered
