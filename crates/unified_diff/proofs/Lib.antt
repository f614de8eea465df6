pub mod Blocks
pub mod SameLines
pub mod EditLemmas
pub mod PutIn
pub mod CutLemmas
pub mod Framing
pub mod Texts
pub mod Telling
mod HunkRows
mod NameRows
pub mod ChangeSteps
pub mod DiffLemmas
