mod KeptLemmas
pub mod Taken
mod Left
mod Stepping
mod Logs
pub mod Leading
mod Advancing
mod Commanding
mod Starting
mod Working
mod AgendaLemmas
mod RunningLists
mod Causes
mod Rounds
mod Refusing
mod FoundLemmas
pub mod Overwritten
