-- What holds through the phases that evaluate addresses and take lines: where it is kept with another zone, with other facts, and with a
-- pattern that is given.
use Rattle.std.proofs.Common.{◌&&◌, ℕ, ℤ, pos, ◌+ℤ◌, List, [], ◌∷◌, Option, None, Some, IfOk, refl}
use Rattle.std.specs.Prelude.{nat_lt, All, IfSome}
use Rattle.std.proofs.lemmas.Bool.{and_parts, ltb-true}
use Rattle.std.proofs.lemmas.List.Elements.{All-nil, All-head}
use Rattle.ed_base.specs.declared.fault.Fault.TheVariants as fault
use Rattle.zones.specs.Name.{mark}
use Rattle.zones.specs.Zone.{Bounds}
use Rattle.zones.specs.Steps.{after_set}
use Rattle.ed_syntax.specs.declared.verbs.Taking.{Taking}
use Rattle.ed_syntax.specs.declared.verbs.Taking.TheVariants as many
use Rattle.ed_syntax.specs.Commands as ed
use Rattle.ed_syntax.specs.Commands.{Base, Address, Addresses, Without, One, Comma, Semicolon, Verb}
use Rattle.ed_syntax.specs.meaning.Verbs.{takes, given_or}
use Rattle.ed_syntax.proofs.meaning.ResultLemmas.{IfOk-bind}
use Rattle.ed_rules.specs.declared.known_matches.Matches.{Matches}
use Rattle.ed_rules.specs.declared.state.Undo.{Undo}
use Rattle.ed_rules.specs.declared.state.State.{State}
use Rattle.ed_rules.specs.Choices.{Choice}
use Rattle.ed_rules.specs.Marks.{is_sure}
use Rattle.ed_rules.specs.Matched.{sought_at, sought_by, sought_at_target}
use Rattle.ed_rules.specs.Pieces.{with_zone, lifted}
use Rattle.ed_rules.specs.declared.following.Way.{Way}
use Rattle.ed_rules.specs.declared.following.Way.TheVariants as ways
use Rattle.ed_rules.specs.facts.Facts.{Facts}
use Rattle.ed_rules.specs.facts.FoundLines.{Known}
use Rattle.ed_rules.specs.Following.{set_to, only_pattern}
use Rattle.ed_rules.specs.Addresses.{possible_patterns, in_buffer, copied, set_from, set_number, known_found, with_found, searched, evaluated_base, evaluated, standing}
use Rattle.ed_rules.specs.Addresses.{addressed, last_given, targeted, ranged}
use Rattle.ed_rules.specs.Lines.{lifted_range}
use Rattle.ed_rules.specs.Files.{whole_or_ranged}
use Rattle.ed_rules.specs.Rules.{taken}
use Rattle.ed_rules.proofs.formed.Speaking.{IsNamed, Speaks-set}
use Rattle.ed_rules.proofs.formed.Naming.{is_spoken, letter-spoken}
use Rattle.ed_rules.proofs.formed.SpeakingPieces.{Inner, IsLow, spoken, Inner-lifted, Inner-lifted_range}
use Rattle.ed_rules.proofs.formed.SpeakingFound.{Inner-known_found}
use Rattle.ed_rules.proofs.through.Needs.{needed, IfOk-need_then, all-parts}

-- those that stand for a command's addresses give no pattern
pub own-sought : (Pattern : List ℕ → Type 0) (a : Addresses) (v : Verb) → All Pattern (sought_by a) →
    All Pattern (sought_by (given_or a (standing (takes v).default)))
own-sought Pattern (One a) v h = h
own-sought Pattern (Comma a b) v h = h
own-sought Pattern (Semicolon a b) v h = h
own-sought Pattern Without ed.Join h = All-nil Pattern
own-sought Pattern Without _ h = All-nil Pattern

-- a zone that takes another's place speaks of lines and sure letters alone, as that one does
pub record KeptAt (P : State → Type 0) (Pattern : List ℕ → Type 0) : Type 0 where
  pub zone : (s : State) (zone : Bounds) → (Inner s.marks s.zone → Inner s.marks zone) → P s → P (with_zone zone s)
  pub given : (s : State) (text : List ℕ) → Pattern text → P s → P (record s { patterns = Some text ∷ [] })
  pub facts : (s : State) (facts : Facts) → P s → P (record s { facts = facts })

-- of the patterns and paths that may be remembered, of undo, and of what is known of matches
abbrev pub Property : Type 1
Property = (patterns names : List Choice) → Undo → Matches → Type 0

abbrev pub Of : Property → State → Type 0
Of A s = A s.patterns s.names s.undo s.matches

-- that says nothing of zones and of facts
pub beside : (A : Property) (Pattern : List ℕ → Type 0) →
    ((s : State) (text : List ℕ) → Pattern text → Of A s → Of A (record s { patterns = Some text ∷ [] })) →
    KeptAt (Of A) Pattern
beside A Pattern given = record { zone = λ s zone _ h. h; given = given; facts = λ s facts h. h }

module _ (P : State → Type 0) (Pattern : List ℕ → Type 0) (keeps : KeptAt P Pattern) where
  pub possible-through : (text : Option (List ℕ)) (s : State) → IfSome text Pattern → P s →
      IfOk (possible_patterns text s) (λ set. P (record s { patterns = set }))
  possible-through None s g q = needed (λ set. P (record s { patterns = set })) _ _ _ q
  possible-through (Some text) s g q = keeps.given s text g q

  set-through : (x y : ℕ) (c : ℤ) (s : State) → IsLow x → IsNamed (is_spoken s.marks) y → P s →
      P (set_to x y c s)
  set-through x y c s hx n q =
      keeps.facts (with_zone (after_set s.zone x y c) s) (set_to x y c s).facts
      (keeps.zone s (after_set s.zone x y c) (λ i. Speaks-set (is_spoken s.marks) s.zone x y c (spoken s.marks x hx) n i) q)

  number-through : (x : ℕ) (n : ℤ) (s : State) → IsLow x → P s → P (set_number x n s)
  number-through x n s hx q =
      keeps.facts (with_zone (after_set s.zone x 0 n) s) (set_number x n s).facts
      (keeps.zone s (after_set s.zone x 0 n) (λ i. Speaks-set (is_spoken s.marks) s.zone x 0 n (spoken s.marks x hx) (spoken s.marks 0 refl) i) q)

  copied-through : (x y : ℕ) (s : State) → IsLow x → IsLow y → P s → P (copied x y s)
  copied-through x y s hx hy q = set-through x y (pos 0) s hx (spoken s.marks y hy) q

  found-through : (way : Way) (possible : List Choice) (x : ℕ) (k : ℤ) (s : State) → IsLow x → P (record s { patterns = possible }) →
      P (with_found way possible x k s)
  found-through way possible x k s hx p =
      let t : State = record s { patterns = possible } in
      let found : Known = known_found s.follows way (only_pattern possible) x k s.marks s.zone s.facts in
      keeps.facts (with_zone found.zone t) found.facts
      (keeps.zone t found.zone (λ i. Inner-known_found s.marks x hx s.follows way (only_pattern possible) k s.zone s.facts i) p)

  searched-through : (way : Way) (x : ℕ) (text : Option (List ℕ)) (k : ℤ) (s : State) → IsLow x → IfSome text Pattern → P s →
      IfOk (searched way x text k s) P
  searched-through way x text k s hx g q =
      IfOk-bind (λ set. P (record s { patterns = set })) P (possible_patterns text s) _ (possible-through text s g q)
      (λ possible p. IfOk-bind P P _ (in_buffer x)
      (needed P _ _ _ (found-through way possible x k s hx p))
      (λ t h. needed P _ _ t h))

  base-through : (x : ℕ) (b : Base) (k : ℤ) (s : State) → IsLow x → All Pattern (sought_at b) → P s →
      IfOk (evaluated_base x b k s) P
  base-through x (ed.Number n) k s hx g q = needed P _ _ _ (number-through x (pos n +ℤ k) s hx q)
  base-through x ed.Current k s hx g q = needed P _ _ _ (set-through x 1 k s hx (spoken s.marks 1 refl) q)
  base-through x ed.Last k s hx g q = needed P _ _ _ (set-through x 2 k s hx (spoken s.marks 2 refl) q)
  base-through x (ed.Marked letter) k s hx g q =
      IfOk-need_then P (nat_lt letter 26 && is_sure s.marks letter) fault.Mark s (set_from x (mark letter) k)
      (λ e.
      let p = and_parts (nat_lt letter 26) (is_sure s.marks letter) e in
      needed P _ _ _ (set-through x (mark letter) k s hx (letter-spoken s.marks letter (ltb-true letter 26 p.0) p.1) q))
  base-through x (ed.Forward None) k s hx g q = searched-through ways.Forward x None k s hx tt q
  base-through x (ed.Forward (Some text)) k s hx g q = searched-through ways.Forward x (Some text) k s hx (All-head Pattern text [] g) q
  base-through x (ed.Backward None) k s hx g q = searched-through ways.Backward x None k s hx tt q
  base-through x (ed.Backward (Some text)) k s hx g q = searched-through ways.Backward x (Some text) k s hx (All-head Pattern text [] g) q

  address-through : (x : ℕ) (a : Address) (s : State) → IsLow x → All Pattern (sought_at a.base) → P s → IfOk (evaluated x a s) P
  address-through x a s hx g q = base-through x a.base a.offset s hx g q

  pub addressed-through : (a : Addresses) (s : State) → All Pattern (sought_by a) → P s → IfOk (addressed a s) P
  addressed-through Without s g q = q
  addressed-through (One a) s g q =
      IfOk-bind P P (evaluated 3 a s) _ (address-through 3 a s refl g q) (λ t h. copied-through 4 3 t refl refl h)
  addressed-through (Comma a b) s g q =
      let both = all-parts Pattern (sought_at a.base) (sought_at b.base) g in
      IfOk-bind P P (evaluated 3 a s) (evaluated 4 b) (address-through 3 a s refl both.0 q) (λ t h. address-through 4 b t refl both.1 h)
  addressed-through (Semicolon a None) s g q =
      IfOk-bind P P (evaluated 3 a s) _ (address-through 3 a s refl g q)
      (λ t h. copied-through 4 3 (copied 1 3 t) refl refl (copied-through 1 3 t refl refl h))
  addressed-through (Semicolon a (Some b)) s g q =
      let both = all-parts Pattern (sought_at a.base) (sought_at b.base) g in
      IfOk-bind P P (evaluated 3 a s) _ (address-through 3 a s refl both.0 q)
      (λ t h. address-through 4 b (copied 1 3 t) refl both.1 (copied-through 1 3 t refl refl h))

  pub targeted-through : (target : Option Address) (s : State) → All Pattern (sought_at_target target) → P s →
      IfOk (targeted target s) P
  targeted-through None s g q = q
  targeted-through (Some a) s g q = address-through 5 a s refl g q

  -- the lines that a command takes

  last_given-through : (a : Addresses) (s : State) → P s → P (last_given a s)
  last_given-through Without s q = q
  last_given-through (One a) s q = q
  last_given-through (Comma a b) s q = copied-through 3 4 s refl refl q
  last_given-through (Semicolon a b) s q = copied-through 3 4 s refl refl q

  ranged-through : (s : State) → P s → IfOk (ranged s) P
  ranged-through s q = needed P _ _ s q

  whole-through : (a : Addresses) (s : State) → P s → IfOk (whole_or_ranged a s) P
  whole-through Without s q = q
  whole-through (One a) s q = ranged-through s q
  whole-through (Comma a b) s q = ranged-through s q
  whole-through (Semicolon a b) s q = ranged-through s q

  pub taken-through : (t : Taking) (own a : Addresses) (s : State) → P s → IfOk (taken t own a s) P
  taken-through many.NoAddress own a s q = q
  taken-through many.Place own a s q = last_given-through a s q
  taken-through many.FirstPlace own a s q =
      let t : State = last_given a s in keeps.zone t (lifted 3 t.zone) (λ i. Inner-lifted t.marks 3 t.zone refl i)
      (last_given-through a s q)
  taken-through many.OneLine own a s q = needed P _ _ _ (last_given-through a s q)
  taken-through many.Lines own a s q =
      IfOk-bind P P _ ranged (needed P _ _ _ (keeps.zone s (lifted_range own s.zone) (λ i. Inner-lifted_range own s.marks s.zone i) q))
      (λ t h. ranged-through t h)
  taken-through many.Range own a s q = ranged-through s q
  taken-through many.Whole own a s q = whole-through own s q
