-- What is known of matches: that it is true, that it stays formed, and what rules say without it.
pub mod Watched
pub mod AsBefore
pub mod Aside
pub mod MatchedLeft
pub mod MatchedPhases
pub mod OldMatches
pub mod Sayings
pub mod MatchesFormed
