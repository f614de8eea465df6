pub mod Choosing
pub mod Texting
pub mod through
pub mod matches
pub mod sound
pub mod Basics
pub mod Folds
pub mod facts
pub mod formed
pub mod exact
mod SubstitutingRows
mod FilesRows
mod Worked
pub mod CoveringStates
