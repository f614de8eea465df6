-- what a reader has to believe
pub mod Rehearsals
pub mod Held
-- what serves clauses inside the crate
pub mod Insides
