-- What is known of landmarks too is formed: its zone speaks of their letters, which are sure.
use Rattle.std.proofs.Common.{◌≡◌, ◌<◌, ◌≤◌, ◌-◌, ◌||◌, ◌&&◌, ℕ, ℤ, pos, negsuc, neg_ℤ, Bool, true, false, List, [], ◌∷◌, ◌++◌, map, length, drop, slice_set, inl, inr, refl, sym, ap, ◌∙◌, arith, get_or-set_same, get_or-set_other, length-set}
use Rattle.std.specs.Prelude.{nat_lt, nat_le, Some}
use Rattle.std.specs.List.{All, flat_map}
use Rattle.std.proofs.lemmas.Bool.{cases_eq, or_parts, or_from, and_cases, and_left, and_right}
use Rattle.std.proofs.lemmas.List.Elements.{All-nil, All-cons, All-head, All-tail, All-append, All-drop}
use Rattle.zones.specs.Bound.{sum_of}
use Rattle.zones.specs.Name.{mark}
use Rattle.zones.specs.Zone.{Bounds, bound}
use Rattle.zones.specs.Steps.{after_guard, guard_bound}
use Rattle.zones.specs.Limits.{IsAtMostZero}
use Rattle.zones.proofs.Diagonal.{IsAtMostZero-lesser}
use Rattle.zones.proofs.Formulas.{bound-after_guard}
use Rattle.ed_syntax.specs.Commands.{Script}
use Rattle.ed_rules.specs.declared.state.State.{State}
use Rattle.ed_rules.specs.Marks.{is_sure}
use Rattle.ed_rules.specs.Formed.{has_name, IsCounted, IsEnded}
use Rattle.ed_rules.proofs.formed.Speaking.{Speaks, IsNamed, Speaks-guard, Speaks-more}
use Rattle.ed_rules.proofs.formed.Naming.{letter-named}
use Rattle.ed_rules.proofs.formed.Forming.{formed-Closed, Closed-formed}
use Rattle.landmarks.specs.declared.which.Which.{Which}
use Rattle.landmarks.specs.declared.which.Which.TheVariants.{First, Only, Numbered}
use Rattle.landmarks.specs.declared.landmark.Landmark.{Landmark}
use Rattle.landmarks.specs.Starting.{Named, named_as, named_below, named, Distance, distance, distances_sought, distances_of, guarded}
use Rattle.cert_check.specs.declared.certificate.Version.{Version}
use Rattle.cert_check.specs.declared.certificate.Version.TheVariants as version
use Rattle.cert_check.specs.checker.Beginning.{count_of, letters_of_chains, with_sure, with_landmarks, began}
use Rattle.cert_check.proofs.verdicts.Lettering.{are-free, are-letters}

abbrev IsLetter : ℕ → Type 0
IsLetter letter = letter < 26

-- SURE LETTERS

set-stays : (marks : List Bool) (own letter : ℕ) → own < length marks → is_sure marks letter ≡ true →
    is_sure (slice_set marks own true) letter ≡ true
set-stays marks own letter h e =
    elim (cases_eq letter own) [
      | inl same ↦ ap (λ (l : ℕ). is_sure (slice_set marks own true) l) same ∙ get_or-set_same marks own true false h
      | inr other ↦ get_or-set_other marks own letter true false other ∙ e
    ]

sure-stays : (letters : List ℕ) (marks : List Bool) (letter : ℕ) → All IsLetter letters → length marks ≡ 26 →
    is_sure marks letter ≡ true → is_sure (with_sure letters marks) letter ≡ true
sure-stays [] marks letter all size e = e
sure-stays (own ∷ letters) marks letter all size e =
    let here : own < 26 = All-head IsLetter own letters all in
    sure-stays letters (slice_set marks own true) letter (All-tail IsLetter own letters all) (length-set marks own true ∙ size)
    (set-stays marks own letter (omega arith) e)

length-with : (letters : List ℕ) (marks : List Bool) → length (with_sure letters marks) ≡ length marks
length-with [] marks = refl
length-with (own ∷ letters) marks = length-with letters (slice_set marks own true) ∙ length-set marks own true

-- no name is lost
names-stay : (letters : List ℕ) (marks : List Bool) (x : ℕ) → All IsLetter letters → length marks ≡ 26 →
    has_name (with_sure letters marks) x ≡ false → has_name marks x ≡ false
names-stay letters marks x all size n =
    let more : List Bool = with_sure letters marks in
    let p = or_parts (nat_lt x 3) (nat_le 6 x && is_sure more (x - 6)) n in
    or_from (nat_lt x 3) (nat_le 6 x && is_sure marks (x - 6)) p.0
    (elim (and_cases (nat_le 6 x) (is_sure more (x - 6)) p.1) [
      | inl low ↦ and_left (nat_le 6 x) (is_sure marks (x - 6)) low
      | inr gone ↦ and_right (nat_le 6 x) (is_sure marks (x - 6)) (unsure (is_sure marks (x - 6)) refl gone)
    ])
  where
    unsure : (b : Bool) → is_sure marks (x - 6) ≡ b → is_sure (with_sure letters marks) (x - 6) ≡ false → b ≡ false
    unsure false e gone = refl
    unsure true e gone = let sure = sure-stays letters marks (x - 6) all size e in absurd cc

-- and the letters have theirs
letters-named : (letters : List ℕ) (marks : List Bool) → All IsLetter letters → length marks ≡ 26 →
    All (IsNamed (has_name (with_sure letters marks))) (map mark letters)
letters-named [] marks all size = All-nil (IsNamed (has_name marks))
letters-named (own ∷ letters) marks all size =
    let more : List Bool = with_sure letters (slice_set marks own true) in
    let here : own < 26 = All-head IsLetter own letters all in
    let rest = All-tail IsLetter own letters all in
    let long : length (slice_set marks own true) ≡ 26 = length-set marks own true ∙ size in
    All-cons (IsNamed (has_name more)) (mark own) (map mark letters)
    (letter-named more own here
    (sure-stays letters (slice_set marks own true) own rest long (get_or-set_same marks own true false (omega arith))))
    (letters-named letters (slice_set marks own true) rest long)

-- THE ZONE

module _ (names : ℕ → Bool) (zero_named : IsNamed names 0) (last_named : IsNamed names 2) where
  -- between names that are spoken of
  abbrev IsSpoken : Distance → Type 0
  IsSpoken d = IsNamed names d.of × IsNamed names d.from

  abbrev AreSpoken : Named → Type 0
  AreSpoken at = IsNamed names at.before × IsNamed names at.name

  sought-spoken : (which : Which) (x : ℕ) → IsNamed names x → All IsSpoken (distances_sought which x)
  sought-spoken (First pattern) x h = All-nil IsSpoken
  sought-spoken (Only pattern) x h = All-nil IsSpoken
  sought-spoken (Numbered number) x h =
      let down : Distance = distance 0 x (neg_ℤ (pos number)) in
      All-cons IsSpoken (distance x 0 (pos number)) (down ∷ []) (h, zero_named) (All-cons IsSpoken down [] (zero_named, h) (All-nil IsSpoken))

  landmark-spoken : (at : Named) → AreSpoken at → All IsSpoken (distances_of at)
  landmark-spoken at h =
      let sought : List Distance = distances_sought at.landmark.which at.name in
      let below : Distance = distance at.before at.name (neg_ℤ (pos at.landmark.gap)) in
      let above : Distance = distance at.name 2 (neg_ℤ (pos at.landmark.tail)) in
      All-cons IsSpoken (distance 0 at.name (negsuc 0)) (above ∷ below ∷ sought) (zero_named, h.1)
      (All-cons IsSpoken above (below ∷ sought) (h.1, last_named)
      (All-cons IsSpoken below sought (h.0, h.1) (sought-spoken at.landmark.which at.name h.1)))

  chain-spoken : (before : ℕ) (own : List ℕ) (chain : List Landmark) → IsNamed names before → All (IsNamed names) own →
      All AreSpoken (named_below before own chain)
  chain-spoken before own [] h all = All-nil AreSpoken
  chain-spoken before [] (landmark ∷ chain) h all = All-nil AreSpoken
  chain-spoken before (x ∷ own) (landmark ∷ chain) h all =
      let here = All-head (IsNamed names) x own all in
      All-cons AreSpoken (named_as before x landmark) (named_below x own chain) (h, here)
      (chain-spoken x own chain here (All-tail (IsNamed names) x own all))

  chains-spoken : (own : List ℕ) (chains : List (List Landmark)) → All (IsNamed names) own → All AreSpoken (named own chains)
  chains-spoken own [] all = All-nil AreSpoken
  chains-spoken own (chain ∷ chains) all =
      All-append AreSpoken (named_below 0 own chain) (named (drop (length chain) own) chains) (chain-spoken 0 own chain zero_named all)
      (chains-spoken (drop (length chain) own) chains (All-drop (IsNamed names) (length chain) own all))

  distances-spoken : (ats : List Named) → All AreSpoken ats → All IsSpoken (flat_map distances_of ats)
  distances-spoken [] h = All-nil IsSpoken
  distances-spoken (at ∷ ats) h =
      All-append IsSpoken (distances_of at) (flat_map distances_of ats) (landmark-spoken at (All-head AreSpoken at ats h))
      (distances-spoken ats (All-tail AreSpoken at ats h))

  guarded-speaks : (ds : List Distance) (zone : Bounds) → All IsSpoken ds → Speaks names zone → Speaks names (guarded ds zone)
  guarded-speaks [] zone all h = h
  guarded-speaks (d ∷ ds) zone all h =
      let here = All-head IsSpoken d ds all in
      guarded-speaks ds (after_guard zone d.of d.from d.most) (All-tail IsSpoken d ds all)
      (Speaks-guard names zone d.of d.from d.most here.0 here.1 h)

  started-speaks : (own : List ℕ) (chains : List (List Landmark)) (zone : Bounds) → All (IsNamed names) own → Speaks names zone →
      Speaks names (guarded (flat_map distances_of (named own chains)) zone)
  started-speaks own chains zone all h =
      guarded-speaks (flat_map distances_of (named own chains)) zone (distances-spoken (named own chains) (chains-spoken own chains all)) h

-- a guard gives up no bound
guard-counted : (zone : Bounds) (x y : ℕ) (c : ℤ) → IsCounted zone → IsCounted (after_guard zone x y c)
unfolding guard_bound
guard-counted zone x y c h =
    rw (bound-after_guard zone x y c 0 2 (omega arith) (omega arith))
    (IsAtMostZero-lesser (bound zone 0 2) (sum_of (sum_of (bound zone 0 x) (Some c)) (bound zone y 2)) h)

guarded-counted : (ds : List Distance) (zone : Bounds) → IsCounted zone → IsCounted (guarded ds zone)
guarded-counted [] zone h = h
guarded-counted (d ∷ ds) zone h = guarded-counted ds (after_guard zone d.of d.from d.most) (guard-counted zone d.of d.from d.most h)

-- THE STATE

ended-landmarks : (letters : List ℕ) (chains : List (List Landmark)) (s : State) → All IsLetter letters → IsEnded s →
    IsEnded (with_landmarks letters chains s)
ended-landmarks letters chains s all h =
    let closed = formed-Closed s h.formed in
    let marks : List Bool = with_sure letters s.marks in
    let more : Speaks (has_name marks) s.zone =
    Speaks-more (has_name s.marks) (has_name marks) s.zone (λ x n. names-stay letters s.marks x all closed.letters n) closed.zone in
    record {
      formed = Closed-formed (with_landmarks letters chains s) (record {
        letters = length-with letters s.marks ∙ closed.letters;
        zone =
            started-speaks (has_name marks) (record { inside = omega arith; named = refl }) (record { inside = omega arith; named = refl })
            (map mark letters) chains s.zone (letters-named letters s.marks all closed.letters) more;
        aside = closed.aside;
      });
      counted = guarded-counted (flat_map distances_of (named (map mark letters) chains)) s.zone h.counted;
    }

-- whatever the version
ended-began : (v : Version) (letters : List ℕ) (chains : List (List Landmark)) (s : State) → All IsLetter letters → IsEnded s →
    IsEnded (began v letters chains s)
ended-began version.One letters chains s all h = h
ended-began version.Two letters chains s all h = h
ended-began version.Three letters chains s all h = ended-landmarks letters chains s all h

-- by the letters that the script leaves
pub ended-left : (v : Version) (script : Script) (chains : List (List Landmark)) (s : State) → IsEnded s →
    IsEnded (began v (letters_of_chains script chains) chains s)
ended-left v script chains s h =
    ended-began v (letters_of_chains script chains) chains s
    (are-letters script 26 (letters_of_chains script chains) (are-free script 26 (count_of chains))) h
