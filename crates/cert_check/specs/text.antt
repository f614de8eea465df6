-- The text of a certificate, in the order of reading.
pub mod Text
pub mod FactsText
pub mod HasText
pub mod Faults
pub mod Wanted
-- what only serves clauses inside the crate
pub mod Writing
pub mod Reading
pub mod SaidZones
pub mod Pieces
