-- Sets of choices stay formed: their order, their bytes, and that they have a member.
use Rattle.std.proofs.Common.{◌≡◌, ◌<◌, ◌≤◌, ℕ, true, List, [], ◌∷◌, length, drop, map, None, Some, refl, ◌∙◌, subst, arith}
use Rattle.std.specs.Prelude.{All, unwrap_or}
use Rattle.std.specs.Cmp.{IsTotalOrder}
use Rattle.std.specs.Cmp.Lexicographic.{nat_list_cmp_total, options_total}
use Rattle.std.proofs.lemmas.List.{length-map, at_drop_all}
use Rattle.std.proofs.lemmas.List.Elements.{All-nil, All-cons, All-map, All-weaker}
use Rattle.ed_base.proofs.SortedLemmas.{rising-with_members, some-with_members, All-with_members}
use Rattle.ed_rules.specs.Files.{filled}
use Rattle.ed_rules.specs.Choices.{Choice, order_of, is_rising, is_set, union}
use Rattle.ed_rules.specs.Formed.{ChoiceIsBytes, SetIsFormed}

pub choices-ordered : IsTotalOrder order_of
choices-ordered = options_total nat_list_cmp_total

-- WHAT A SET IS

set-of : (set : List Choice) → is_rising set ≡ true → 0 < length set → is_set set ≡ true
set-of [] h some = absurd (omega arith)
set-of (c ∷ set) h some = h

set-some : (set : List Choice) → is_set set ≡ true → 0 < length set
set-some [] h = absurd cc
set-some (c ∷ set) h = omega arith

set-rises : (set : List Choice) → is_set set ≡ true → is_rising set ≡ true
set-rises [] h = absurd cc
set-rises (c ∷ set) h = h

pub set-union : (one other : List Choice) → is_set one ≡ true → is_set other ≡ true → is_set (union one other) ≡ true
set-union one other h k =
    set-of (union one other) (rising-with_members choices-ordered one other (set-rises other k)) (some-with_members order_of one other (set-some one h))

-- a path in place of none
abbrev with_path : (path : List ℕ) → Choice → Choice
with_path path c = Some (unwrap_or c path)

filled-some : (path : List ℕ) (set : List Choice) → 0 < length set → 0 < length (union (map (with_path path) set) [])
filled-some path set some =
    let same : length (map (with_path path) set) ≡ length set = length-map set (with_path path) in
    some-with_members order_of (map (with_path path) set) [] (omega arith)

pub set-filled : (path : List ℕ) (set items all : List Choice) (index : ℕ) →
    union (map (with_path path) set) [] ≡ union (map (with_path path) (drop index items)) all → length items ≤ index →
    is_set set ≡ true → is_set all ≡ true
set-filled path set items all index is end h =
    let named : List Choice = map (with_path path) set in
    let last : union named [] ≡ all = is ∙ at_drop_all (λ (rest : List Choice). union (map (with_path path) rest) all) items index end in
    subst (λ (s : List Choice). is_set s ≡ true) last
    (set-of (union named []) (rising-with_members choices-ordered named [] refl) (filled-some path set (set-some set h)))

-- SETS

pub SetIsFormed-only : (c : Choice) → ChoiceIsBytes c → SetIsFormed (c ∷ [])
SetIsFormed-only c h = record { bytes = All-cons ChoiceIsBytes c [] h (All-nil ChoiceIsBytes); rising = refl; some = omega arith }

pub SetIsFormed-union : (one other : List Choice) → SetIsFormed one → SetIsFormed other → SetIsFormed (union one other)
SetIsFormed-union one other h k = record {
  bytes = All-with_members order_of ChoiceIsBytes one other h.bytes k.bytes;
  rising = rising-with_members choices-ordered one other k.rising;
  some = some-with_members order_of one other h.some;
}

with_path-bytes : (path : List ℕ) (c : Choice) → ChoiceIsBytes (Some path) → ChoiceIsBytes c → ChoiceIsBytes (with_path path c)
with_path-bytes path None h k = h
with_path-bytes path (Some c) h k = k

pub SetIsFormed-filled : (path : List ℕ) (set : List Choice) → ChoiceIsBytes (Some path) → SetIsFormed set → SetIsFormed (filled path set)
unfolding filled
SetIsFormed-filled path set h k =
    let named : List Choice = map (with_path path) set in
    record {
      bytes = All-with_members order_of ChoiceIsBytes named []
          (All-map ChoiceIsBytes (with_path path) set (All-weaker ChoiceIsBytes (λ (c : Choice). ChoiceIsBytes (with_path path c)) (λ c b. with_path-bytes path c h b) set k.bytes))
          (All-nil ChoiceIsBytes);
      rising = rising-with_members choices-ordered named [] refl;
      some = filled-some path set k.some;
    }
