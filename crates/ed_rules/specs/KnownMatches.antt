-- What is known of matches, of the lines that are there and of those that undo would bring back: all that is done with both at once.
use Rattle.std.specs.Prelude.{◌≡◌, ℕ, true, List, [], Option, Some, None}
use Rattle.ed_rules.specs.declared.known_matches.Matches.{Matches}
use Rattle.ed_rules.specs.declared.state.Old.{Old}
use Rattle.ed_rules.specs.Texts.{are_members, both_texts}

-- nothing is known
abbrev pub no_matches : Matches
no_matches = record { has = []; old_has = [] }

-- some of the lines match these patterns, and undo has no earlier ones
abbrev pub matches_of : (has : List (List ℕ)) → Matches
matches_of has = record { has = has; old_has = [] }

-- the lines that are there and the earlier ones change places
abbrev pub exchanged : Matches → Matches
exchanged m = record { has = m.old_has; old_has = m.has }

-- what some of the earlier lines match; where one side has no earlier buffer, the other's stands
abbrev pub old_has_of_both : {A B : Type 0} → Option A → Option B → (has other : List (List ℕ)) → List (List ℕ)
old_has_of_both None was has other = other
old_has_of_both (Some a) None has other = has
old_has_of_both (Some a) (Some b) has other = both_texts has other

-- what both say, by the earlier buffers that undo may find on either side
abbrev pub matches_of_both : {A B : Type 0} → Option A → Option B → Matches → Matches → Matches
matches_of_both one other m n = record { has = both_texts m.has n.has; old_has = old_has_of_both one other m.old_has n.old_has }

-- where the strong one has an earlier buffer, what its lines match is among what those of the strong one do
abbrev pub CoversOldHas : {A : Type 0} → Option A → (weak strong : List (List ℕ)) → Type 0
CoversOldHas None weak strong = Unit {0}
CoversOldHas (Some old) weak strong = are_members weak strong ≡ true

-- all that the weak one says the strong one says too, of earlier lines where it has some
pub record CoversMatches (was : Option Old) (weak strong : Matches) : Type 0 where
  pub has : are_members weak.has strong.has ≡ true
  pub old_has : CoversOldHas was weak.old_has strong.old_has
