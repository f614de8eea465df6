-- what a reader has to believe, in the order of reading
pub mod Rounds
pub mod Following
pub mod Analysis
pub mod Judged
pub mod Wanted
pub mod Checked
pub mod Exactness
-- what only serves clauses inside the crate
pub mod Walking
pub mod Passing
