-- Lemmas and worked rows on what running a script means.
pub mod Worked
pub mod RunRows
mod AddressRows
mod CutRows
mod FileRows
pub mod CutLemmas
mod SubstitutionRows
mod SubstituteRows
mod GlobalRows
mod UndoRows
pub mod StepLemmas
pub mod ListedLemmas
pub mod FaultSteps
pub mod CountLemmas
pub mod MarkLemmas
pub mod GlobalLemmas
pub mod ResultLemmas
pub mod PlaceLemmas
pub mod WholeLemmas
pub mod Reshaping
pub mod EachLine
pub mod EffectShapes
pub mod CommandSteps
pub mod FaultLemmas
pub mod AnswerLemmas
pub mod RunLemmas
mod ErasureRows
pub mod ErasureLemmas
pub mod ErasedPlaces
pub mod ErasedEffects
pub mod ErasedRuns
pub mod MarkedStarts
