pub mod Places
pub mod Lettered
pub mod Flags
pub mod Turns
pub mod Own
mod Cuts
mod MarkRows
pub mod Swapped
pub mod SwappedMarks
pub mod Grouped
pub mod Joined
pub mod SwappedChunks
pub mod Found
pub mod Offsets
pub mod Ranges
pub mod Taken
pub mod Filled
pub mod Written
pub mod Runs
pub mod Uncut
