-- what a reader has to believe
pub mod Deeds
pub mod Paths
pub mod Reads
pub mod LeftFiles
pub mod Endings
pub mod SeenDeeds
pub mod Reasons
pub mod OneFile
-- what serves clauses inside the crate
pub mod Insides
