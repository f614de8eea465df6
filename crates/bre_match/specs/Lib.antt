-- to believe: what `find` answers
pub mod Answer
-- what a searcher looks for
pub mod Searchers
-- by what parts of a text are passed over
pub mod Passing
-- what is kept from one searcher to the next, handed on between calls alone: `resume` takes it, `of` and `leave` give it
pub mod Learning
-- laws of first ways, and which of them count as one
pub mod Alike
pub mod Laws
-- what several patterns answer of one text
pub mod Witness
-- these only serve clauses inside the crate
pub mod Runs
pub mod Listed
pub mod Narrowing
pub mod Keeping
pub mod Order
pub mod Turns
pub mod Meeting
pub mod Outlooks
pub mod Spreads
pub mod Starts
pub mod Needs
pub mod RowEnds
pub mod Parts
pub mod Columns
pub mod Marks
pub mod Spans
pub mod Backwards
pub mod Ends
pub mod Tables
pub mod States
pub mod Automata
pub mod Scans
pub mod ByteKinds
pub mod Watches
pub mod ClosedSets
