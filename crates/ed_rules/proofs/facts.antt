-- Lemmas and worked rows on facts of lines.
mod FactsRows
mod FactsMadeRows
mod RewrittenRows
pub mod FactsTold
pub mod FactsOrdered
pub mod FactsByBytes
pub mod SearchOrder
pub mod FoundLines
pub mod FactsEnded
pub mod EditedLines
pub mod EditedFacts
pub mod EditCalls
pub mod AfterCalls
pub mod FactsLeft
pub mod PrunedFacts
pub mod AssignedFacts
pub mod CarriedFacts
pub mod FactsCarried
pub mod SubstitutedFacts
pub mod FactsSpared
pub mod OneTurn
pub mod RewrittenLine
