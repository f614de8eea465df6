-- what a reader has to believe, in the order of reading
pub mod Passing
pub mod Sought
pub mod Widest
pub mod Nowhere
pub mod Landmarks
pub mod Like
pub mod Allowing
-- what hints promise, over scripts as they are read from bytes (`script_of`)
pub mod Hints
pub mod Refusals
-- which words a start has
pub mod Shown
pub mod StartWords
-- what serves clauses inside the crate
pub mod Narrowing
