-- Watches from which each text leads to watches of the same set, and that no text leaves as is said.
use Rattle.std.specs.Prelude.{◌≡◌, ◌⊎◌, ℕ, ◌<◌, ◌≤◌, true, false, List, [], ◌∷◌, length, get_or, take, Option, Some, None}
use Rattle.bre_match.specs.declared.witness.Answer.{Answer}
use Rattle.bre_match.specs.Watches.{Watch, next_watches, first_watches, are_as_said, is_ruled_out}

-- these are among those that are known
abbrev pub AreKnown : (known : List (List Watch)) → List Watch → Type 0
AreKnown known watches = (k : ℕ) × (k < length known) × (get_or known k [] ≡ watches)

-- these needn't be gone on from: no text that leads to them answers as is said, or they are known
abbrev pub AreDone : List Answer → (known : List (List Watch)) → List Watch → Type 0
AreDone answers known watches = (is_ruled_out answers watches ≡ true) ⊎ AreKnown known watches

-- The place of two equal bytes, before which the watches are: the first where the text begins, or the second one.
abbrev pub place_after : (from : Option ℕ) → ℕ
place_after None = 0
place_after (Some at) = 1

-- the first of these bytes lead from the watches to some with which one is done
abbrev pub BytesLeadOn : List Answer → (kinds : List ℕ) → (known : List (List Watch)) → (place : ℕ) → List Watch → (below : ℕ) → Type 0
BytesLeadOn answers kinds known place watches below =
    (k : ℕ) → k < below →
    AreDone answers known (next_watches answers watches (get_or kinds k 0 ∷ get_or kinds k 0 ∷ []) place)

-- all of them do, and a text that ends there isn't as said
abbrev pub LeadOn : List Answer → (kinds : List ℕ) → (known : List (List Watch)) → (place : ℕ) → List Watch → Type 0
LeadOn answers kinds known place watches =
    BytesLeadOn answers kinds known place watches (length kinds)
    × (are_as_said answers (next_watches answers watches (take place (0 ∷ [])) place) ≡ false)

-- the first of those that are known lead on
abbrev pub KnownLeadOn : List Answer → (kinds : List ℕ) → (known : List (List Watch)) → (below : ℕ) → Type 0
KnownLeadOn answers kinds known below = (k : ℕ) → k < below → LeadOn answers kinds known 1 (get_or known k [])

-- what is known stays known
abbrev pub StayKnown : (old new : List (List Watch)) → Type 0
StayKnown old new = (length old ≤ length new) × ((k : ℕ) → k < length old → get_or new k [] ≡ get_or old k [])

-- some set of watches is closed: those before a text's first place lead on, and all that are known
abbrev pub HasClosedSet : List Answer → (kinds : List ℕ) → Type 0
HasClosedSet answers kinds =
    (known : List (List Watch))
    × LeadOn answers kinds known 0 (first_watches answers)
    × KnownLeadOn answers kinds known (length known)
