-- The reader's own words, in the order of reading: tied to the spellings by the law `scripts_are_read_as_spelled`
pub mod Tokens
pub mod ReadParameters
pub mod ReadVerbs
pub mod ReadCommands
pub mod ReadGlobals
pub mod Reading
pub mod ReadParts
