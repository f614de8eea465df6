-- to be read, and believed or refused
pub mod Places
pub mod Misplaced
pub mod Placings
pub mod Words
pub mod Spelled
pub mod ChainValues
pub mod ChainFaults
pub mod Starting
pub mod Starts
-- what serves clauses inside the crate
pub mod Looking
pub mod Stops
pub mod FaultPlaces
