-- what a reader has to believe
pub mod Sessions
pub mod Calls
pub mod Sinks
pub mod Drives
pub mod Seen
pub mod Work
pub mod Stamps
pub mod FoundFiles
pub mod Folders
-- the tools for runs in memory
pub mod MemFiles
pub mod MemSinks
pub mod KeptAnswers
-- what serves clauses inside the crate
pub mod Chunks
pub mod Overwrites
pub mod Agendas
pub mod Insides
pub mod Rounds
