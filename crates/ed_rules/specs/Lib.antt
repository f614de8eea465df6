-- what a reader has to believe, in the order of reading
pub mod Choices
pub mod Marks
pub mod Texts
pub mod KnownMatches
pub mod Matched
pub mod States
pub mod Formed
pub mod StandsFor
pub mod Order
pub mod Pieces
pub mod Following
pub mod Addresses
pub mod Lines
pub mod Move
pub mod Substituting
pub mod Files
pub mod Matching
pub mod FactsAfter
pub mod Undoing
pub mod Rules
pub mod Reaching
pub mod Soundness
pub mod LineBounds
pub mod Exact
pub mod Globals
pub mod GlobalSoundness
-- what the law on exact commands says
pub mod ExactRules
-- what is known of single lines beside the zone
pub mod facts
