-- What a run that follows single lines says of them stays true while addresses are evaluated.
use Rattle.std.proofs.Common.{◌≡◌, ◌<◌, ◌≤◌, ◌==◌, inl, inr, ℕ, zero, suc, ℤ, pos, negsuc, ◌+ℤ◌, Bool, true, false, ◌&&◌, ◌||◌, List, [], ◌∷◌, length, max, Option, None, Some, Result, Ok, arith, refl, ◌∙◌, sym, ap, subst}
use Rattle.std.specs.Ordering.{is_eq}
use Rattle.std.proofs.lemmas.Int.{ints}
use Rattle.std.proofs.lemmas.Bool.{or_cases, cases_eq}
use Rattle.std.proofs.lemmas.Bool.Decides.{eqb_tells}
use Rattle.std.proofs.lemmas.List.Elements.{All-filter, All-weaker}
use Rattle.ed_base.specs.declared.fault.Fault.{Fault}
use Rattle.ed_base.specs.Buffer.{Line}
use Rattle.zones.specs.Zone.{Bounds, Numbers, Holds, updated}
use Rattle.zones.proofs.Known.{updated-same, updated-other}
use Rattle.ed_syntax.specs.meaning.States as editor
use Rattle.ed_syntax.specs.meaning.Values as concrete
use Rattle.ed_syntax.specs.meaning.Values.{matches_line, lines_forward, lines_backward}
use Rattle.ed_rules.specs.declared.following.Way.{Way}
use Rattle.ed_rules.specs.declared.following.Way.TheVariants.{Forward, Backward}
use Rattle.ed_rules.specs.declared.state.State.{State}
use Rattle.ed_rules.specs.Choices.{Choice, order_of, has_choice}
use Rattle.ed_rules.specs.Matched.{is_matched}
use Rattle.ed_rules.specs.StandsFor.{StandsBy}
use Rattle.ed_rules.specs.Following.{patterns_of, facts_without, facts_set, set_to, may_name, spoken_facts, only_pattern, found_by}
use Rattle.ed_rules.specs.Addresses.{found, known_found}
use Rattle.ed_rules.specs.facts.Facts.{LineFact, Stretch, Facts, FactsHold, LineFactHolds, StretchHolds, ReadsEnds, value_of, point, end}
use Rattle.ed_rules.specs.facts.FoundLines.{Known, known_as, without}
use Rattle.ed_rules.specs.facts.FoundHolds.{KnownHolds, ReadsPlaces, Finds}
use Rattle.ed_rules.specs.facts.AssignedFacts.{assigned, moved}
use Rattle.ed_rules.proofs.Choosing.{same-choices}
use Rattle.ed_rules.proofs.facts.AssignedFacts.{value-up, assigned-holds, moved-holds}
use Rattle.ed_rules.proofs.facts.FoundLines.{told-same, clear-within, value-at, value-other, FactsHold-without, forward-search, backward-search}
use Rattle.ed_rules.proofs.sound.Searching.{forward-finds, backward-finds, Holds-found}

-- where single lines are followed, what is said of them is true
abbrev pub FollowedHold : State → Numbers → List Line → Type 0
FollowedHold s v lines = s.follows ≡ true → FactsHold s.facts v lines

-- a state stands for an editor's and, where single lines are followed, what it says of them is true by the same numbers
abbrev pub KnownBy : (follows : Bool) → State → editor.State → Type 0
KnownBy follows s e = (v : Numbers) × StandsBy s e v × (follows ≡ true → FactsHold s.facts v e.lines)

abbrev pub KnownAt : State → editor.State → Type 0
KnownAt s e = KnownBy s.follows s e

-- NUMBERS

-- a name that is set twice has its last number
twice-at : (v : Numbers) (x : ℕ) (m n : ℤ) (y : ℕ) → updated (updated v x m) x n y ≡ updated v x n y
twice-at v x m n y = elim (eqb_tells y x) [ inl e ↦ rw e.0 refl | inr e ↦ rw e.0 refl ]

updated-twice : (v : Numbers) (x : ℕ) (m n : ℤ) → updated (updated v x m) x n ≡ updated v x n
updated-twice v x m n = λ i. λ y. twice-at v x m n y i

unmoved-at : (v : Numbers) (x y : ℕ) → updated v x (v x +ℤ pos 0) y ≡ v y
unmoved-at v x y = elim (eqb_tells y x) [
  | inl e ↦ let same : v x ≡ v y = ap v (sym e.1) in let plus : v x +ℤ pos 0 ≡ v x = omega (arith, ints) in rw e.0 (plus ∙ same)
  | inr e ↦ rw e.0 refl
]

unmoved : (v : Numbers) (x : ℕ) → updated v x (v x +ℤ pos 0) ≡ v
unmoved v x = λ i. λ y. unmoved-at v x y i

-- ANOTHER LINE

-- moved by any number
moved-known : (x : ℕ) (c : ℤ) (k : Known) (v : Numbers) (lines : List Line) → x < 32 → (2 ≡ x → ⊥) → KnownHolds k v lines →
    KnownHolds (moved x c k) (updated v x (v x +ℤ c)) lines
moved-known x (pos zero) k v lines hx ne h = subst (λ (w : Numbers). KnownHolds k w lines) (sym (unmoved v x)) h
moved-known x (pos (suc n)) k v lines hx ne h =
    moved-holds x (pos (suc n)) k v lines hx ne h (λ (e : pos (suc n) ≡ pos 0). omega (arith, ints))
moved-known x (negsuc n) k v lines hx ne h =
    moved-holds x (negsuc n) k v lines hx ne h (λ (e : negsuc n ≡ pos 0). omega (arith, ints))

-- from a number that x had meanwhile
moved-from : (x : ℕ) (c n : ℤ) (k : Known) (v : Numbers) (lines : List Line) → x < 32 → (2 ≡ x → ⊥) →
    KnownHolds k (updated v x n) lines → KnownHolds (moved x c k) (updated v x (n +ℤ c)) lines
moved-from x c n k v lines hx ne h =
    let w : Numbers = updated v x n in
    let same : updated w x (w x +ℤ c) ≡ updated v x (n +ℤ c) =
    updated-twice v x n (w x +ℤ c) ∙ ap (λ (m : ℤ). updated v x (m +ℤ c)) (updated-same v x n) in
    subst (λ (u : Numbers). KnownHolds (moved x c k) u lines) same (moved-known x c k w lines hx ne h)

pub facts-set : (b : Bool) (x y : ℕ) (c n : ℤ) (zone : Bounds) (facts : Facts) (v : Numbers) (lines : List Line) → x < 32 → y < 32 →
    (2 ≡ x → ⊥) → n ≡ v y +ℤ c → Holds zone v → ReadsEnds v lines → (b ≡ true → FactsHold facts v lines) → b ≡ true →
    FactsHold (facts_set b x y c zone facts) (updated v x n) lines
facts-set false x y c n zone facts v lines hx hy ne is holds r h e = absurd cc
facts-set true x y c n zone facts v lines hx hy ne is holds r h e =
    let k : Known = assigned x y (patterns_of facts) zone facts in
    let a : KnownHolds k (updated v x (v y)) lines = assigned-holds x y (patterns_of facts) zone facts v lines hx hy ne holds r (h refl) in
    let m : KnownHolds (moved x c k) (updated v x (v y +ℤ c)) lines = moved-from x c (v y) k v lines hx ne a in
    subst (λ (z : ℤ). FactsHold (moved x c k).facts (updated v x z) lines) (sym is) m.facts

pub facts-without : (b : Bool) (x : ℕ) (n : ℤ) (facts : Facts) (v : Numbers) (lines : List Line) → (2 ≡ x → ⊥) →
    (b ≡ true → FactsHold facts v lines) → b ≡ true → FactsHold (facts_without b x facts) (updated v x n) lines
facts-without false x n facts v lines ne h e = absurd cc
facts-without true x n facts v lines ne h e = FactsHold-without x n facts v lines ne (h refl)

-- 0 stands for 1: of no line more is said than before
lifted-number : (v : Numbers) (x n : ℕ) → v x ≡ pos n → 1 ≤ n → updated v x (pos (max 1 n)) ≡ v
lifted-number v x n is from =
    let same : max 1 n ≡ n = omega arith in
    let e : v x +ℤ pos 0 ≡ pos (max 1 n) = omega (arith, ints) in
    subst (λ (m : ℤ). updated v x m ≡ v) e (unmoved v x)

lifted-none : (x : ℕ) (facts : Facts) (v : Numbers) (lines : List Line) → x < 32 → (2 ≡ x → ⊥) → v x ≡ pos 0 → FactsHold facts v lines →
    FactsHold facts (updated v x (pos 1)) lines
lifted-none x facts v lines hx ne is h = record {
  of_lines = All-weaker (LineFactHolds v lines) (LineFactHolds (updated v x (pos 1)) lines) (λ (f : LineFact) (q : LineFactHolds v lines f). elim (cases_eq f.name x) [
    | inl e ↦
        let from = q.holds.from in
        let line : v x ≡ pos q.holds.line = ap v (sym e) ∙ q.holds.is in
        absurd (omega (arith, ints))
    | inr d ↦ record {
      named = q.named;
      holds = told-same (length lines) (matches_line f.pattern lines) (v f.name) (updated v x (pos 1) f.name) f.matches (updated-other v x (pos 1) f.name d) q.holds;
    }
  ]) facts.lines h.of_lines;
  of_clear = All-weaker (StretchHolds v lines) (StretchHolds (updated v x (pos 1)) lines) (λ (s : Stretch) (q : StretchHolds v lines s). record {
    after_named = q.after_named;
    before_named = q.before_named;
    holds =
        let low = value-up x s.after (pos 1) v hx ne q.after_named (omega (arith, ints)) in
        (elim (cases_eq s.before x) [
          | inl e ↦ λ n from inside above under.
              let high : value_of (updated v x (pos 1)) (point s.before) ≡ pos 1 =
              ap (λ (y : ℕ). value_of (updated v x (pos 1)) (point y)) e ∙ value-at (updated v x (pos 1)) x hx ∙ updated-same v x (pos 1) in
              absurd (omega (arith, ints))
          | inr d ↦
              let high = value-other x s.before (pos 1) v ne q.before_named d in
              clear-within (length lines) (matches_line s.pattern lines) _ _ _ _ low (omega (arith, ints)) q.holds
        ]);
  }) facts.clear h.of_clear;
}

pub FactsHold-lifted : (x n : ℕ) (facts : Facts) (v : Numbers) (lines : List Line) → x < 32 → (2 ≡ x → ⊥) → v x ≡ pos n → FactsHold facts v lines →
    FactsHold facts (updated v x (pos (max 1 n))) lines
FactsHold-lifted x zero facts v lines hx ne is h = lifted-none x facts v lines hx ne is h
FactsHold-lifted x (suc n) facts v lines hx ne is h =
    subst (λ (w : Numbers). FactsHold facts w lines) (sym (lifted-number v x (suc n) is (omega arith))) h

pub followed-set : (s : State) (e : editor.State) (v : Numbers) (x y : ℕ) (c n : ℤ) → x < 32 → y < 32 → (2 ≡ x → ⊥) → n ≡ v y +ℤ c →
    StandsBy s e v → FollowedHold s v e.lines → FollowedHold (set_to x y c s) (updated v x n) e.lines
followed-set s e v x y c n hx hy ne is st h =
    facts-set s.follows x y c n s.zone s.facts v e.lines hx hy ne is st.buffer.holds
    (record { zero_is = st.buffer.reads.zero_is; last_is = st.buffer.reads.last_is }) h

-- facts are said beside
pub StandsBy-facts : (s : State) (e : editor.State) (v : Numbers) (facts : Facts) → StandsBy s e v → StandsBy (record s { facts = facts }) e v
StandsBy-facts s e v facts st = record { buffer = st.buffer; remembered = st.remembered; changed = st.changed; past = st.past }

-- SEARCHES

pub spoken-holds : (marks : List Bool) (facts : Facts) (v : Numbers) (lines : List Line) → FactsHold facts v lines →
    FactsHold (spoken_facts marks facts) v lines
spoken-holds marks facts v lines h = record {
  of_lines = All-filter (λ (f : LineFact). may_name marks f.name) (LineFactHolds v lines) facts.lines h.of_lines;
  of_clear =
      All-filter (λ (s : Stretch). (s.after == end || may_name marks s.after) && (s.before == end || may_name marks s.before))
      (StretchHolds v lines) facts.clear h.of_clear;
}

-- in which order a search goes over the lines
abbrev pub order_by : Way → editor.State → List ℕ
order_by Forward e = lines_forward e
order_by Backward e = lines_backward e

-- some line is found
some-found : (way : Way) (text : List ℕ) (e : editor.State) → is_matched e.lines text ≡ true → e.current ≤ length e.lines →
    (n : ℕ) × (concrete.searched (Some text) (order_by way e) e ≡ Ok n) × (1 ≤ n) × (n ≤ length e.lines)
some-found Forward text e matched inside = forward-finds text e matched inside
some-found Backward text e matched inside = backward-finds text e matched inside

-- and what facts say of it is true
followed-found : (way : Way) (x : ℕ) (text : List ℕ) (zone : Bounds) (facts : Facts) (v : Numbers) (e : editor.State) → 3 ≤ x → x < 6 →
    Holds zone v → FactsHold facts v e.lines → ReadsPlaces v e.current e.lines → e.current ≤ length e.lines →
    is_matched e.lines text ≡ true → Finds (found_by way x text zone facts) v x e.lines (concrete.searched (Some text) (order_by way e) e)
followed-found Forward x text zone facts v e lo hi holds h r inside matched = forward-search zone facts v e text x lo hi holds h r inside matched
followed-found Backward x text zone facts v e lo hi holds h r inside matched = backward-search zone facts v e text x lo hi holds h r inside matched

-- A line is found. With it and an offset the zone holds, and so do the facts where lines are followed.
pub record FindsKnown (follows : Bool) (known : Known) (v : Numbers) (x : ℕ) (k : ℤ) (lines : List Line) (result : Result ℕ Fault) : Type 0 where
  pub line : ℕ
  pub is : result ≡ Ok line
  pub zone : Holds known.zone (updated v x (pos line +ℤ k))
  pub facts : follows ≡ true → FactsHold known.facts (updated v x (pos line +ℤ k)) lines

module _ (way : Way) (x : ℕ) (k : ℤ) (s : State) (e : editor.State) (v : Numbers) (text : List ℕ) (lo : 3 ≤ x) (hi : x < 6)
    (st : StandsBy s e v) (matched : is_matched e.lines text ≡ true) where
  abbrev Found : Bool → Known → Type 0
  Found follows known = FindsKnown follows known v x k e.lines (concrete.searched (Some text) (order_by way e) e)

  ne : 2 ≡ x → ⊥
  ne = λ (q : 2 ≡ x). omega arith

  -- of a line of which no fact is said
  some-line : (follows : Bool) (facts : Facts) → ((n : ℤ) → follows ≡ true → FactsHold facts (updated v x n) e.lines) →
      Found follows (known_as (found x k s.zone) facts)
  some-line follows facts h =
      let o = some-found way text e matched st.buffer.inside in
      record {
        line = o.0;
        is = o.1;
        zone = Holds-found x k s.zone v o.0 (length e.lines) lo hi st.buffer.holds st.buffer.reads.zero_is st.buffer.reads.last_is o.2 o.3;
        facts = h (pos o.0 +ℤ k);
      }

  followed-line : FactsHold s.facts v e.lines → Found true (known_found true way (Some text) x k s.marks s.zone s.facts)
  followed-line h =
      let facts : Facts = spoken_facts s.marks s.facts in
      let r : ReadsPlaces v e.current e.lines =
      record { zero_is = st.buffer.reads.zero_is; current_is = st.buffer.reads.current_is; last_is = st.buffer.reads.last_is } in
      let f = followed-found way x text s.zone facts v e lo hi st.buffer.holds (spoken-holds s.marks s.facts v e.lines h) r st.buffer.inside matched in
      let m = moved-from x k (pos f.line) (found_by way x text s.zone facts) v e.lines (omega arith) ne f.holds in
      record { line = f.line; is = f.is; zone = m.zone; facts = λ _. m.facts }

  found-among : (possible : List Choice) → has_choice possible (Some text) ≡ true → FactsHold s.facts v e.lines →
      Found true (known_found true way (only_pattern possible) x k s.marks s.zone s.facts)
  found-among [] has h = absurd cc
  found-among (None ∷ possible) has h = some-line true (without x s.facts) (λ n _. FactsHold-without x n s.facts v e.lines ne h)
  found-among (Some other ∷ []) has h = elim (or_cases (is_eq (order_of (Some text) (Some other))) false has) [
    | inl same ↦
        subst (λ (only : Option (List ℕ)). Found true (known_found true way only x k s.marks s.zone s.facts))
        (same-choices (Some text) (Some other) same) (followed-line h)
    | inr none ↦ absurd cc
  ]
  found-among (Some other ∷ another ∷ possible) has h =
      some-line true (without x s.facts) (λ n _. FactsHold-without x n s.facts v e.lines ne h)

  pub found-known : (follows : Bool) (possible : List Choice) → has_choice possible (Some text) ≡ true →
      (follows ≡ true → FactsHold s.facts v e.lines) →
      Found follows (known_found follows way (only_pattern possible) x k s.marks s.zone s.facts)
  found-known false possible has h = some-line false s.facts (λ n (q : false ≡ true). absurd cc)
  found-known true possible has h = found-among possible has (h refl)
