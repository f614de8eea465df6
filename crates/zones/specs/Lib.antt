-- to be read, and believed or refused
pub mod Name
pub mod Bound
pub mod Zone
pub mod Steps
pub mod Known
-- what the laws about limits, differences and room mean
pub mod Limits
pub mod Differences
pub mod Isolated
pub mod Room
-- the known bounds of a zone one by one
pub mod KnownBounds
-- what serves clauses inside the crate
pub mod Entry
pub mod Reach
pub mod RowWrites
pub mod Merging
pub mod Written
