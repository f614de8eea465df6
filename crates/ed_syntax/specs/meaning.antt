-- What running a script means, in the order of reading.
pub mod States
pub mod Verbs
pub mod Values
pub mod Ranges
pub mod Forms
pub mod Substitution
pub mod Effects
pub mod SubstitutedLines
pub mod Files
pub mod Globals
pub mod Applied
pub mod Progress
pub mod Runs
-- what the laws on all commands and runs say
pub mod CommandLaws
pub mod Erasure
pub mod ErasureLaws
pub mod Laws
