-- Lemmas on the checks, and on what an accepted certificate means.
pub mod Checks
pub mod Quitting
pub mod Flags
pub mod FormedFacts
pub mod Forming
pub mod Running
pub mod Turning
pub mod Stepping
pub mod Starting
pub mod Counting
pub mod Lettering
pub mod Judging
pub mod Covering
pub mod Opening
pub mod MarkedOpening
pub mod Beginning
