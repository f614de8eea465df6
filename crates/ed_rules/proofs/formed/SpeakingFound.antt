-- The zone with a line that a search finds speaks of the names of a rule alone, where facts name no letter but sure ones.
use Rattle.std.proofs.Common.{◌≡◌, ◌&&◌, ◌||◌, ◌==◌, inl, inr, ℕ, zero, suc, ℤ, pos, negsuc, Bool, true, false, cond, not, List, [], ◌∷◌, Option, None, Some, refl}
use Rattle.std.specs.Prelude.{All, nat_lt}
use Rattle.std.specs.List.{filter, find, list_any}
use Rattle.std.proofs.lemmas.Bool.{and_parts, or_cases, ltb-true, not-true, both_ways}
use Rattle.std.proofs.lemmas.List.Elements.{All-head, All-tail, All-map, All-filter, All-weaker, filter_passes}
use Rattle.zones.specs.Zone.{Bounds}
use Rattle.zones.specs.Steps.{after_guard}
use Rattle.ed_rules.specs.declared.following.Way.{Way}
use Rattle.ed_rules.specs.declared.following.Way.TheVariants.{Forward, Backward}
use Rattle.ed_rules.specs.facts.Facts.{LineFact, Stretch, Facts, at, point, end, same_text, is_clear}
use Rattle.ed_rules.specs.facts.FoundLines.{Known, known_as, without, with_match, some_line, matches_it, witnesses, is_only, at_most_each, at_least_each, ends_from, ends_after, first_after, is_ahead, found_ahead, found_only, searched_forward, begins_to, begins_before, last_before, is_behind, found_behind, searched_backward}
use Rattle.ed_rules.specs.facts.AssignedFacts.{moved}
use Rattle.ed_rules.specs.Following.{may_name, spoken_facts, found_by}
use Rattle.ed_rules.specs.Addresses.{known_found}
use Rattle.ed_rules.specs.Globals.{line_known}
use Rattle.ed_rules.proofs.facts.FoundLines.{filter-both, find-gives}
use Rattle.ed_rules.proofs.formed.Speaking.{IsNamed, Speaks-guard, Speaks-set}
use Rattle.ed_rules.proofs.formed.Naming.{is_spoken}
use Rattle.ed_rules.proofs.formed.SpeakingPieces.{Inner, IsLow, spoken, Inner-guard, Inner-shift, Inner-forget, Inner-found}

-- FACTS

abbrev Named : List Bool → ℕ → Type 0
Named marks x = IsNamed (is_spoken marks) x

-- or the end, which is no name of the zone
abbrev NamedAt : List Bool → ℕ → Type 0
NamedAt marks x = (x == end) ≡ false → Named marks x

-- the facts name what a zone may speak of
record AreNamed (marks : List Bool) (facts : Facts) : Type 0 where
  lines : All (λ (f : LineFact). Named marks f.name) facts.lines
  clear : All (λ (s : Stretch). NamedAt marks s.after × NamedAt marks s.before) facts.clear

may-named : (marks : List Bool) (x : ℕ) → may_name marks x ≡ true → Named marks x
may-named marks x e = let b = and_parts (nat_lt x 32) (is_spoken marks x) e in record { inside = ltb-true x 32 b.0; named = b.1 }

may-named-at : (marks : List Bool) (x : ℕ) → (x == end || may_name marks x) ≡ true → NamedAt marks x
may-named-at marks x e no_end = elim (or_cases (x == end) (may_name marks x) e) [
  | inl is ↦ absurd (both_ways (x == end) no_end is)
  | inr k ↦ may-named marks x k
]

spoken-named : (marks : List Bool) (facts : Facts) → AreNamed marks (spoken_facts marks facts)
spoken-named marks facts =
    let of_line : LineFact → Bool = λ (f : LineFact). may_name marks f.name in
    let of_stretch : Stretch → Bool =
    λ (s : Stretch). (s.after == end || may_name marks s.after) && (s.before == end || may_name marks s.before) in
    record {
      lines = All-weaker (λ (f : LineFact). of_line f ≡ true) (λ (f : LineFact). Named marks f.name) (λ f e. may-named marks f.name e)
          (filter of_line facts.lines) (filter_passes of_line facts.lines);
      clear =
          All-weaker (λ (s : Stretch). of_stretch s ≡ true) (λ (s : Stretch). NamedAt marks s.after × NamedAt marks s.before)
          (λ s e.
          let b = and_parts (s.after == end || may_name marks s.after) (s.before == end || may_name marks s.before) e in
          (may-named-at marks s.after b.0, may-named-at marks s.before b.1))
          (filter of_stretch facts.clear) (filter_passes of_stretch facts.clear);
    }

without-named : (marks : List Bool) (x : ℕ) (facts : Facts) → AreNamed marks facts → AreNamed marks (without x facts)
without-named marks x facts h = record {
  lines = All-filter (λ (f : LineFact). not (f.name == x)) (λ (f : LineFact). Named marks f.name) facts.lines h.lines;
  clear = All-filter (λ (s : Stretch). not (s.after == x) && not (s.before == x))
      (λ (s : Stretch). NamedAt marks s.after × NamedAt marks s.before) facts.clear h.clear;
}

witnesses-named : (marks : List Bool) (facts : Facts) (pattern : List ℕ) → AreNamed marks facts → All (Named marks) (witnesses facts pattern)
witnesses-named marks facts pattern h =
    All-map (Named marks) (λ (f : LineFact). f.name) (filter (matches_it pattern) facts.lines)
    (All-filter (matches_it pattern) (λ (f : LineFact). Named marks f.name) facts.lines h.lines)

ends-named : (marks : List Bool) (zone : Bounds) (facts : Facts) (low : ℕ) (pattern : List ℕ) → AreNamed marks facts →
    All (Named marks) (ends_after zone facts low pattern)
ends-named marks zone facts low pattern h =
    All-map (Named marks) (λ (s : Stretch). s.before) (filter (ends_from zone low pattern) facts.clear)
    (filter-both (ends_from zone low pattern) (λ (s : Stretch). NamedAt marks s.after × NamedAt marks s.before)
    (λ (s : Stretch). Named marks s.before) facts.clear h.clear
    (λ s q e.
    let a = and_parts (same_text s.pattern pattern) _ e in
    let b = and_parts (not (s.before == end)) _ a.1 in
    q.1 (not-true (s.before == end) b.0)))

begins-named : (marks : List Bool) (zone : Bounds) (facts : Facts) (high : ℕ) (pattern : List ℕ) → AreNamed marks facts →
    All (Named marks) (begins_before zone facts high pattern)
begins-named marks zone facts high pattern h =
    All-map (Named marks) (λ (s : Stretch). s.after) (filter (begins_to zone high pattern) facts.clear)
    (filter-both (begins_to zone high pattern) (λ (s : Stretch). NamedAt marks s.after × NamedAt marks s.before)
    (λ (s : Stretch). Named marks s.after) facts.clear h.clear
    (λ s q e.
    let a = and_parts (same_text s.pattern pattern) _ e in
    let b = and_parts (not (s.after == end)) _ a.1 in
    q.0 (not-true (s.after == end) b.0)))

-- THE ZONE

-- the line that alone matches is current
pub Inner-line_known : (marks : List Bool) (zone : Bounds) (facts : Facts) (pattern : List ℕ) (v : ℕ) →
    find (is_only zone (spoken_facts marks facts) pattern) (witnesses (spoken_facts marks facts) pattern) ≡ Some v → Inner marks zone →
    Inner marks (line_known v zone)
unfolding line_known
Inner-line_known marks zone facts pattern v found h =
    let spoken_of : Facts = spoken_facts marks facts in
    let named = find-gives (is_only zone spoken_of pattern) (Named marks) (witnesses spoken_of pattern) v
    (witnesses-named marks spoken_of pattern (spoken-named marks facts)) found in
    Inner-guard marks _ 1 2 _ refl refl (Inner-guard marks _ 0 1 _ refl refl (Speaks-set (is_spoken marks) zone 1 v (pos 0) (spoken marks 1 refl) named.0 h))

module _ (marks : List Bool) (x : ℕ) (hx : IsLow x) where
  Inner-some_line : (zone : Bounds) → Inner marks zone → Inner marks (some_line x zone)
  Inner-some_line zone h =
      Inner-guard marks _ x 2 _ hx refl (Inner-guard marks _ 0 x _ refl hx (Inner-forget marks zone x h))

  Inner-at_most_each : (ys : List ℕ) (zone : Bounds) → All (Named marks) ys → Inner marks zone → Inner marks (at_most_each x ys zone)
  Inner-at_most_each [] zone all h = h
  Inner-at_most_each (y ∷ ys) zone all h =
      Inner-at_most_each ys _ (All-tail (Named marks) y ys all)
      (Speaks-guard (is_spoken marks) zone x y (pos 0) (spoken marks x hx) (All-head (Named marks) y ys all) h)

  Inner-at_least_each : (ys : List ℕ) (zone : Bounds) → All (Named marks) ys → Inner marks zone → Inner marks (at_least_each x ys zone)
  Inner-at_least_each [] zone all h = h
  Inner-at_least_each (y ∷ ys) zone all h =
      Inner-at_least_each ys _ (All-tail (Named marks) y ys all)
      (Speaks-guard (is_spoken marks) zone y x (pos 0) (All-head (Named marks) y ys all) (spoken marks x hx) h)

  Inner-first_after : (low : ℕ) (highs : List ℕ) (pattern : List ℕ) (zone : Bounds) (facts : Facts) → IsLow low →
      All (Named marks) highs → AreNamed marks facts → Inner marks zone → Inner marks (first_after low highs x pattern zone facts).zone
  Inner-first_after low highs pattern zone facts hl all named h =
      Inner-at_least_each (ends_after zone facts low pattern) _ (ends-named marks zone facts low pattern named)
      (Inner-at_most_each highs _ all (Inner-guard marks zone low x (negsuc 0) hl hx h))

  Inner-last_before : (high : ℕ) (lows : List ℕ) (pattern : List ℕ) (start zone : Bounds) (facts : Facts) → All (Named marks) lows →
      AreNamed marks facts → Inner marks zone → Inner marks (last_before high lows x pattern start zone facts).zone
  Inner-last_before high lows pattern start zone facts all named h =
      Inner-at_most_each (begins_before start facts high pattern) _ (begins-named marks start facts high pattern named)
      (Inner-at_least_each lows zone all h)

  -- by a test, whatever it says
  either : (b : Bool) (one other : Known) → Inner marks one.zone → Inner marks other.zone → Inner marks (cond b one other).zone
  either true one other h k = h
  either false one other h k = k

  Inner-found_ahead : (pattern : List ℕ) (zone : Bounds) (facts : Facts) → AreNamed marks facts → Inner marks zone →
      Inner marks (found_ahead x pattern zone facts).zone
  Inner-found_ahead pattern zone facts named h =
      let ws : List ℕ = witnesses facts pattern in
      let all : All (Named marks) ws = witnesses-named marks facts pattern named in
      either (list_any (is_ahead zone) ws) (first_after 1 (filter (is_ahead zone) ws) x pattern zone facts) _
      (Inner-first_after 1 (filter (is_ahead zone) ws) pattern zone facts refl (All-filter (is_ahead zone) (Named marks) ws all) named h)
      (either (is_clear zone facts (at 1) (point end) pattern) (first_after 0 ws x pattern zone facts)
      (known_as zone (with_match x pattern facts)) (Inner-first_after 0 ws pattern zone facts refl all named h) h)

  Inner-found_behind : (pattern : List ℕ) (zone : Bounds) (facts : Facts) → AreNamed marks facts → Inner marks zone →
      Inner marks (found_behind x pattern zone facts).zone
  Inner-found_behind pattern zone facts named h =
      let ws : List ℕ = witnesses facts pattern in
      let all : All (Named marks) ws = witnesses-named marks facts pattern named in
      let under : Bounds = after_guard zone x 1 (negsuc 0) in
      either (list_any (is_behind zone) ws) (last_before 1 (filter (is_behind zone) ws) x pattern zone under facts) _
      (Inner-last_before 1 (filter (is_behind zone) ws) pattern zone under facts (All-filter (is_behind zone) (Named marks) ws all) named
      (Inner-guard marks zone x 1 (negsuc 0) hx refl h))
      (either (is_clear zone facts (at 0) (at 1) pattern) (last_before end ws x pattern zone zone facts)
      (known_as zone (with_match x pattern facts)) (Inner-last_before end ws pattern zone zone facts all named h) h)

  Inner-found_only : (v : ℕ) (pattern : List ℕ) (zone : Bounds) (facts : Facts) → Named marks v → Inner marks zone →
      Inner marks (found_only v x pattern zone facts).zone
  Inner-found_only v pattern zone facts n h = Speaks-set (is_spoken marks) zone x v (pos 0) (spoken marks x hx) n h

  Inner-searched_forward : (pattern : List ℕ) (zone : Bounds) (facts : Facts) → AreNamed marks facts → Inner marks zone →
      Inner marks (searched_forward x pattern zone facts).zone
  Inner-searched_forward pattern zone facts named h =
      let there : Bounds = some_line x zone in
      let others : Facts = without x facts in
      let n : AreNamed marks others = without-named marks x facts named in
      let k : Inner marks there = Inner-some_line zone h in
      (elim (find (is_only there others pattern) (witnesses others pattern)) as
      (λ o. find (is_only there others pattern) (witnesses others pattern) ≡ o →
      Inner marks (elim o as (λ _. Known) [ Some v ↦ found_only v x pattern there others | None ↦ found_ahead x pattern there others ]).zone) [
        | Some v ↦ λ e.
            Inner-found_only v pattern there others
            (find-gives (is_only there others pattern) (Named marks) (witnesses others pattern) v (witnesses-named marks others pattern n) e).0 k
        | None ↦ λ e. Inner-found_ahead pattern there others n k
      ]) refl

  Inner-searched_backward : (pattern : List ℕ) (zone : Bounds) (facts : Facts) → AreNamed marks facts → Inner marks zone →
      Inner marks (searched_backward x pattern zone facts).zone
  Inner-searched_backward pattern zone facts named h =
      let there : Bounds = some_line x zone in
      let others : Facts = without x facts in
      let n : AreNamed marks others = without-named marks x facts named in
      let k : Inner marks there = Inner-some_line zone h in
      (elim (find (is_only there others pattern) (witnesses others pattern)) as
      (λ o. find (is_only there others pattern) (witnesses others pattern) ≡ o →
      Inner marks (elim o as (λ _. Known) [ Some v ↦ found_only v x pattern there others | None ↦ found_behind x pattern there others ]).zone) [
        | Some v ↦ λ e.
            Inner-found_only v pattern there others
            (find-gives (is_only there others pattern) (Named marks) (witnesses others pattern) v (witnesses-named marks others pattern n) e).0 k
        | None ↦ λ e. Inner-found_behind pattern there others n k
      ]) refl

  Inner-found_by : (way : Way) (pattern : List ℕ) (zone : Bounds) (facts : Facts) → AreNamed marks facts → Inner marks zone →
      Inner marks (found_by way x pattern zone facts).zone
  Inner-found_by Forward pattern zone facts named h = Inner-searched_forward pattern zone facts named h
  Inner-found_by Backward pattern zone facts named h = Inner-searched_backward pattern zone facts named h

  Inner-moved : (c : ℤ) (k : Known) → Inner marks k.zone → Inner marks (moved x c k).zone
  Inner-moved (pos zero) k h = h
  Inner-moved (pos (suc n)) k h = Inner-shift marks k.zone x _ _ hx h
  Inner-moved (negsuc n) k h = Inner-shift marks k.zone x _ _ hx h

  pub Inner-known_found : (follows : Bool) (way : Way) (only : Option (List ℕ)) (k : ℤ) (zone : Bounds) (facts : Facts) → Inner marks zone →
      Inner marks (known_found follows way only x k marks zone facts).zone
  Inner-known_found false way only k zone facts h = Inner-found marks x k zone hx h
  Inner-known_found true way None k zone facts h = Inner-found marks x k zone hx h
  Inner-known_found true way (Some text) k zone facts h =
      Inner-moved k (found_by way x text zone (spoken_facts marks facts))
      (Inner-found_by way text zone (spoken_facts marks facts) (spoken-named marks facts) h)
