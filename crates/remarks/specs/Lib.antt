-- what a reader has to believe, in the order of reading
pub mod Parts
pub mod Patterns
pub mod Ranges
pub mod Steps
pub mod Shown
pub mod Told
-- what serves clauses inside the crate
pub mod Adding
