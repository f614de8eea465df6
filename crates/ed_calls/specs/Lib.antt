-- what a reader has to believe
pub mod Edit
pub mod Headline
pub mod Told
pub mod Check
pub mod Places
pub mod Names
pub mod Starts
pub mod Landmarked
pub mod Vouch
pub mod Judging
pub mod Run
pub mod Vouched
pub mod Fits
pub mod Rehearsed
pub mod HeldBack
pub mod Known
pub mod Explaining
pub mod Explains
-- what serves clauses inside the crate
pub mod Finding
pub mod Gathering
pub mod RunOver
pub mod StartTest
