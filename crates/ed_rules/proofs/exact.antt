-- Exact commands: what the rules know of them is all that there is to know.
pub mod EndAlike
pub mod Zones
pub mod Pieces
pub mod Addresses
pub mod Spans
pub mod Effects
pub mod Files
pub mod Commands
pub mod Start
