mod Lines
mod Firsts
mod Placed
mod OneAfterAnother
mod Ends
mod Keys
mod Determined
pub mod Chains
mod WordReads
mod PartReads
mod Told
mod Started
mod Marked
mod Guarded
mod SameChains
