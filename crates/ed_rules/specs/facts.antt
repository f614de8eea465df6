-- Facts of lines: what they mean, what a zone with them says, and what each command leaves of them.
pub mod Facts
pub mod FactOrder
pub mod SearchOrder
pub mod FoundLines
pub mod FoundHolds
pub mod EditedFacts
pub mod RewrittenLine
pub mod NewLines
pub mod PrunedFacts
pub mod EditHolds
pub mod AssignedFacts
pub mod SubstitutedFacts
pub mod OneTurn
pub mod CarriedFacts
pub mod CarriedHolds
