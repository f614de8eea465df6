-- Which bytes spell which script, in the order of reading.
pub mod Characters
pub mod Letters
pub mod Quoting
pub mod Addressing
pub mod Absence
pub mod Parameters
pub mod CommandLetters
pub mod Spellings
-- what the laws on all scripts say
pub mod Readable
