-- what a reader has to believe, in the order of reading
pub mod Commands
pub mod spelling
pub mod meaning
-- what the public types stand for
pub mod PublicTypes
pub mod PublicScript
-- when two scripts are the same but for some of their commands
pub mod Changed
-- where the parts of a command stand in its line
pub mod Ends
-- the reader's own words
pub mod reading
-- what serves clauses inside the crate
pub mod PartNumbers
pub mod ListStarts
