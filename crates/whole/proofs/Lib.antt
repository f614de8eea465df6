pub mod PathLemmas
pub mod DeedLemmas
pub mod FileLemmas
pub mod Keeping
pub mod EndLemmas
pub mod Reasoning
pub mod Drafted
