-- How often the invariant of the rounds of a list can still be weakened, and that this falls from each round to the next.
use Rattle.std.proofs.Common.{pos, negsuc, ℤ, ◌≡◌, ◌≤◌, ◌<◌, ◌+◌, ◌*◌, ℕ, zero, suc, Bool, true, false, ◌||◌, ◌&&◌, ◌==◌, List, [], ◌∷◌, ◌++◌, length, get_or, Option, None, Some, ◌⊎◌, inl, inr, refl, sym, subst, cond, arith}
use Rattle.std.specs.Prelude.{nat_lt}
use Rattle.std.specs.List.{list_all, filter}
use Rattle.std.specs.Ordering.{is_eq, nat_cmp}
use Rattle.std.specs.Cmp.Lexicographic.{slice_cmp}
use Rattle.std.proofs.lemmas.Int.{ints}
use Rattle.std.proofs.lemmas.Bool.{cases_lt, and_parts, or_cases, or_left, or_right}
use Rattle.std.proofs.lemmas.List.FromFn.{get_or-map-range_with_len}
use Rattle.zones.specs.Bound.{IsKept}
use Rattle.zones.specs.Zone.{Bounds}
use Rattle.zones.specs.Zone as zones
use Rattle.zones.specs.Limits.{IsZone}
use Rattle.zones.specs.Room.{room, total_room}
use Rattle.zones.specs.Steps.{join_of, widening_of}
use Rattle.zones.proofs.Kept.{IsZone-join_of, IsZone-widening_of}
use Rattle.zones.proofs.Order.{Covers-through}
use Rattle.zones.proofs.Rooms.{total_room-covers, total_room-not_covered}
use Rattle.ed_rules.specs.declared.state.Old.{Old}
use Rattle.ed_rules.specs.declared.state.State.{State}
use Rattle.ed_rules.specs.Choices.{Choice, order_of, has_choice, union, are_choices}
use Rattle.ed_rules.specs.Marks.{is_sure, both_sure}
use Rattle.ed_rules.specs.Texts.{is_member, are_members, both_texts}
use Rattle.ed_rules.specs.KnownMatches.{old_has_of_both}
use Rattle.ed_rules.specs.Order.{facts_of_both, old_of_both, united, join, widen, CoversOld, Covers}
use Rattle.ed_rules.specs.Following.{may_name}
use Rattle.ed_rules.specs.facts.Facts.{LineFact, Stretch, Facts, end}
use Rattle.ed_rules.specs.facts.FactOrder.{says_line, says_clear, cover_facts}
use Rattle.ed_rules.proofs.Choosing.{choice-itself, same-choices}
use Rattle.ed_rules.proofs.Texting.{same-texts, text-itself, member-passes, members-both, members-both_other}
use Rattle.cert_check.specs.checker.Covering.{zone_covers, allows, are_among, old_covers, old_has_covers, covers}
use Rattle.cert_check.proofs.verdicts.Covering.{below-each, says-zone}
use Rattle.analyser.specs.Rounds.{next_invariant}
use Rattle.analyser.specs.Walking.{AreCountable, OldIsZone, HasZones}
use Rattle.analyser.proofs.Sets.{members-append}
use Rattle.analyser.proofs.Results.{either}

-- the laws that this rests on: what is joined or widened covers both
pub record Laws : Type 0 where
  pub joined : (one other : State) → Covers (join one other) one
  pub joined_other : (one other : State) → Covers (join one other) other
  pub widened : (old new : State) → Covers (widen old new) old
  pub widened_other : (old new : State) → Covers (widen old new) new

-- a room doesn't grow, and it falls where the old part doesn't cover the other
pub record Falls (covered : Bool) (new old : ℕ) : Type 0 where
  pub no_more : new ≤ old
  pub fewer : covered ≡ false → new < old

falls-and : (a b : Bool) (m n p q : ℕ) → Falls a m n → Falls b p q → Falls (a && b) (m + p) (n + q)
falls-and true b m n p q h k =
    let first = h.no_more in
    let second = k.no_more in
    record { no_more = omega arith; fewer = λ e. let f : p < q = k.fewer e in omega arith }
falls-and false b m n p q h k =
    let first = h.no_more in
    let second = k.no_more in
    let f : m < n = h.fewer refl in
    record { no_more = omega arith; fewer = λ e. omega arith }

-- FLAGS

abbrev pub flag_room : Bool → ℕ
flag_room true = 0
flag_room false = 1

falls-flag : (weak strong : Bool) → Falls (allows weak strong) (flag_room (weak || strong)) (flag_room weak)
falls-flag true true = record { no_more = omega arith; fewer = λ e. absurd cc }
falls-flag true false = record { no_more = omega arith; fewer = λ e. absurd cc }
falls-flag false true = record { no_more = omega arith; fewer = λ e. omega arith }
falls-flag false false = record { no_more = omega arith; fewer = λ e. absurd cc }

-- MARKS

abbrev pub mark_room : Bool → ℕ
mark_room true = 1
mark_room false = 0

abbrev pub sure_room : ℕ → List Bool → ℕ
sure_room zero marks = 0
sure_room (suc k) marks = mark_room (is_sure marks k) + sure_room k marks

mark-falls : (few many both : Bool) → both ≡ few && many →
    (mark_room both ≤ mark_room few) × ((allows many few ≡ true) ⊎ (mark_room both < mark_room few))
mark-falls true true both e = rw e (omega arith, inl refl)
mark-falls true false both e = rw e (omega arith, inr (omega arith))
mark-falls false true both e = rw e (omega arith, inl refl)
mark-falls false false both e = rw e (omega arith, inl refl)

both-is : (one other : List Bool) (k : ℕ) → k < 26 → is_sure (both_sure one other) k ≡ is_sure one k && is_sure other k
unfolding both_sure
both-is one other k l =
    get_or-map-range_with_len (λ (letter : ℕ). is_sure one letter && is_sure other letter) 0 26 k k false l (omega arith)

sure-falls : (one other : List Bool) (n : ℕ) → n ≤ 26 →
    (sure_room n (both_sure one other) ≤ sure_room n one)
    × (((k : ℕ) → k < n → allows (is_sure other k) (is_sure one k) ≡ true)
    ⊎ (sure_room n (both_sure one other) < sure_room n one))
sure-falls one other zero l = (omega arith, inl (λ k h. absurd (omega arith)))
sure-falls one other (suc n) l =
    let before = sure-falls one other n (omega arith) in
    let here = mark-falls (is_sure one n) (is_sure other n) (is_sure (both_sure one other) n) (both-is one other n (omega arith)) in
    let no_more = before.0 in
    let not_here = here.0 in (
      omega arith,
      elim before.1 [
        | inr f ↦ inr (omega arith)
        | inl all ↦ elim here.1 [
          | inr f ↦ inr (omega arith)
          | inl e ↦ inl (λ k h. elim (cases_lt k n) [
            | inl m ↦ all k m
            | inr m ↦ let same : n ≡ k = omega arith in
                subst (λ (i : ℕ). allows (is_sure other i) (is_sure one i) ≡ true) same e
          ])
        ]
      ],
    )

among-each : (one other : List Bool) → ((k : ℕ) → k < 26 → allows (is_sure other k) (is_sure one k) ≡ true) →
    are_among one other ≡ true
unfolding are_among
among-each one other h = below-each (λ (k : ℕ). allows (is_sure other k) (is_sure one k)) 26 h

falls-marks : (one other : List Bool) → Falls (are_among one other) (sure_room 26 (both_sure one other)) (sure_room 26 one)
falls-marks one other =
    let h = sure-falls one other 26 (omega arith) in
    record {
      no_more = h.0;
      fewer = λ e. elim h.1 [ inr f ↦ f | inl all ↦ let a : are_among one other ≡ true = among-each one other all in absurd cc ];
    }

-- ZONES

falls-zone : (old other new : Bounds) → IsZone old → IsZone new → zones.Covers new old → zones.Covers new other →
    Falls (zone_covers old other) (total_room new) (total_room old)
falls-zone old other new h n covers_old covers_other = record {
  no_more = total_room-covers new old n h covers_old;
  fewer = λ e. total_room-not_covered new old n h covers_old
      (λ k. let a : zone_covers old other ≡ true = says-zone old other (Covers-through old new other k covers_other) in absurd cc);
}

-- SETS

-- how many members of a list a set lacks
abbrev pub lacking : List Choice → (set : List Choice) → ℕ
lacking [] set = 0
lacking (c ∷ cs) set = flag_room (has_choice set c) + lacking cs set

abbrev Holds : (few many : List Choice) → Type 0
Holds few many = (c : Choice) → has_choice few c ≡ true → has_choice many c ≡ true

flag-less : (a b : Bool) → (a ≡ true → b ≡ true) → flag_room b ≤ flag_room a
flag-less true b h = let e : b ≡ true = h refl in rw e (omega arith)
flag-less false true h = omega arith
flag-less false false h = omega arith

lacking-less : (cs few many : List Choice) → Holds few many → lacking cs many ≤ lacking cs few
lacking-less [] few many h = omega arith
lacking-less (c ∷ cs) few many h =
    let here = flag-less (has_choice few c) (has_choice many c) (h c) in
    let later = lacking-less cs few many h in
    omega arith

flag-fewer : (a b : Bool) → a ≡ false → b ≡ true → flag_room b < flag_room a
flag-fewer true b e f = absurd cc
flag-fewer false true e f = omega arith
flag-fewer false false e f = absurd cc

lacking-fewer : (cs few many : List Choice) (c : Choice) → Holds few many → has_choice cs c ≡ true → has_choice few c ≡ false →
    has_choice many c ≡ true → lacking cs many < lacking cs few
lacking-fewer [] few many c h i e f = absurd cc
lacking-fewer (d ∷ cs) few many c h i e f = elim (or_cases (is_eq (order_of c d)) (has_choice cs c) i) [
  | inl q ↦
      let same : c ≡ d = same-choices c d q in
      let here : flag_room (has_choice many d) < flag_room (has_choice few d) =
      flag-fewer (has_choice few d) (has_choice many d) (subst (λ (x : Choice). has_choice few x ≡ false) same e)
      (subst (λ (x : Choice). has_choice many x ≡ true) same f) in
      let later = lacking-less cs few many h in
      omega arith
  | inr q ↦
      let here = flag-less (has_choice few d) (has_choice many d) (h d) in
      let later = lacking-fewer cs few many c h q e f in
      omega arith
]

-- a set of which not all is in another one has a member that is not there
set-fewer : (cs few many new : List Choice) → Holds few many → Holds new many → are_choices new cs ≡ true →
    are_choices new few ≡ false → lacking cs many < lacking cs few
set-fewer cs few many [] h k within e = absurd cc
set-fewer cs few many (c ∷ new) h k within e =
    let inside = and_parts (has_choice cs c) (are_choices new cs) within in
    (elim (has_choice few c) as (λ b. has_choice few c ≡ b → b && are_choices new few ≡ false → lacking cs many < lacking cs few) [
      | true ↦ λ q f. set-fewer cs few many new h (λ d i. k d (or_right (is_eq (order_of d c)) (has_choice new d) i)) inside.1 f
      | false ↦ λ q f. lacking-fewer cs few many c h inside.0 q
          (k c (or_left (is_eq (order_of c c)) (has_choice new c) (choice-itself c)))
    ]) refl e

held : (few many : List Choice) → are_choices few many ≡ true → Holds few many
held [] many within c h = absurd cc
held (d ∷ few) many within c h =
    let both = and_parts (has_choice many d) (are_choices few many) within in
    elim (or_cases (is_eq (order_of c d)) (has_choice few c) h) [
      | inl q ↦ subst (λ (x : Choice). has_choice many x ≡ true) (sym (same-choices c d q)) both.0
      | inr q ↦ held few many both.1 c q
    ]

-- a set grows to one that has all of both
falls-set : (cs one other both : List Choice) → are_choices other cs ≡ true → are_choices one both ≡ true →
    are_choices other both ≡ true → Falls (are_choices other one) (lacking cs both) (lacking cs one)
falls-set cs one other both within has_one has_other = record {
  no_more = lacking-less cs one both (held one both has_one);
  fewer = λ e. set-fewer cs one both other (held one both has_one) (held other both has_other) within e;
}

-- UNDO

-- how many facts of lines there are
abbrev pub fact_room : Facts → ℕ
fact_room facts = length facts.lines + length facts.clear

-- no room of an earlier buffer is as large
abbrev pub most_room : ℕ
most_room = 38941488147419104283

abbrev pub old_room : Option Old → ℕ
old_room None = most_room
old_room (Some old) = total_room old.zone + (sure_room 26 old.marks + fact_room old.facts)

room-most : (b : Option ℤ) → IsKept b → room b ≤ 2000000000000001
room-most None h = omega arith
room-most (Some (pos n)) h = omega arith
room-most (Some (negsuc n)) h = let low = h.0 in omega (arith, ints)

total-most : (zone : Bounds) → ((k : ℕ) → IsKept (get_or zone k None)) → total_room zone ≤ length zone * 2000000000000001
total-most [] h = omega arith
total-most (b ∷ zone) h =
    let here = room-most b (h 0) in
    let later = total-most zone (λ k. h (suc k)) in
    omega arith

mark-most : (b : Bool) → mark_room b ≤ 1
mark-most true = omega arith
mark-most false = omega arith

sure-most : (n : ℕ) (marks : List Bool) → sure_room n marks ≤ n
sure-most zero marks = omega arith
sure-most (suc n) marks =
    let here = mark-most (is_sure marks n) in
    let later = sure-most n marks in
    omega arith

old-most : (old : Old) → IsZone old.zone → AreCountable old.facts →
    total_room old.zone + (sure_room 26 old.marks + fact_room old.facts) < most_room
old-most old h few =
    let lines = few.0 in
    let clear = few.1 in
    let size = h.size in
    let zone : total_room old.zone ≤ 1024 * 2000000000000001 =
    subst (λ (n : ℕ). total_room old.zone ≤ n * 2000000000000001) size (total-most old.zone h.kept) in
    let marks = sure-most 26 old.marks in
    omega arith

-- those of a set that pass a test are fewer where not all do
filter-length : {A : Type 0} (p : A → Bool) (set : List A) →
    (length (filter p set) ≤ length set) × (list_all p set ≡ false → length (filter p set) < length set)
filter-length p [] = (omega arith, λ e. absurd cc)
filter-length p (t ∷ set) =
    let later = filter-length p set in
    let no_more = later.0 in
    elim (p t) as (λ b. (length (cond b (t ∷ filter p set) (filter p set)) ≤ suc (length set))
    × (b && list_all p set ≡ false → length (cond b (t ∷ filter p set) (filter p set)) < suc (length set))) [
      | true ↦ (omega arith, λ e. let fewer = later.1 e in omega arith)
      | false ↦ (omega arith, λ e. omega arith)
    ]

-- facts that the other side doesn't say are lost, and those of letters that aren't sure on both sides
falls-facts : (marks : List Bool) (one : Facts) (zone : Bounds) (other : Facts) →
    Falls (cover_facts one zone other) (fact_room (facts_of_both marks one zone other)) (fact_room one)
falls-facts marks one zone other =
    let said = filter-length (says_line zone other) one.lines in
    let spoken = filter-length (λ (f : LineFact). may_name marks f.name) (filter (says_line zone other) one.lines) in
    let clear = filter-length (says_clear zone other) one.clear in
    let spanned = filter-length (λ (s : Stretch). (s.after == end || may_name marks s.after) && (s.before == end || may_name marks s.before))
    (filter (says_clear zone other) one.clear) in
    falls-and _ _ _ _ _ _
    (record { no_more = through spoken.0 said.0; fewer = λ e. below spoken.0 (said.1 e) })
    (record { no_more = through spanned.0 clear.0; fewer = λ e. below spanned.0 (clear.1 e) })
  where
    through : {a b c : ℕ} → a ≤ b → b ≤ c → a ≤ c
    through h k = omega arith

    below : {a b c : ℕ} → a ≤ b → b < c → a < c
    below h k = omega arith

falls-old : (one other : Option Old) → OldIsZone one → OldIsZone other → CoversOld (old_of_both one other) one →
    CoversOld (old_of_both one other) other → Falls (old_covers one other) (old_room (old_of_both one other)) (old_room one)
falls-old None None h k c d = record { no_more = omega arith; fewer = λ e. absurd cc }
falls-old (Some one) None h k c d = record { no_more = omega arith; fewer = λ e. absurd cc }
falls-old None (Some other) h k c d = let f = old-most other k.0 k.1 in record { no_more = omega arith; fewer = λ e. f }
falls-old (Some one) (Some other) h k c d =
    falls-and _ _ _ _ _ _
    (falls-zone one.zone other.zone (join_of one.zone other.zone) h.0 (IsZone-join_of one.zone other.zone h.0 k.0) c.0 d.0)
    (falls-and _ _ _ _ _ _ (falls-marks one.marks other.marks) (falls-facts (both_sure one.marks other.marks) one.facts other.zone other.facts))

-- TEXTS

falls-has : (one other : List (List ℕ)) → Falls (are_members one other) (length (both_texts one other)) (length one)
falls-has one other = let h = filter-length (is_member other) one in record { no_more = h.0; fewer = h.1 }

-- how many of a list of texts a set has
abbrev pub held_of : (texts set : List (List ℕ)) → ℕ
held_of [] set = 0
held_of (t ∷ texts) set = mark_room (is_member set t) + held_of texts set

held-most : (texts set : List (List ℕ)) → held_of texts set ≤ length texts
held-most [] set = omega arith
held-most (t ∷ texts) set =
    let here = mark-most (is_member set t) in
    let later = held-most texts set in
    omega arith

abbrev HoldsTexts : (few many : List (List ℕ)) → Type 0
HoldsTexts few many = (t : List ℕ) → is_member few t ≡ true → is_member many t ≡ true

room-less : (a b : Bool) → (a ≡ true → b ≡ true) → mark_room a ≤ mark_room b
room-less true b h = let e : b ≡ true = h refl in rw e (omega arith)
room-less false b h = omega arith

held-less : (texts few many : List (List ℕ)) → HoldsTexts few many → held_of texts few ≤ held_of texts many
held-less [] few many h = omega arith
held-less (t ∷ texts) few many h =
    let here = room-less (is_member few t) (is_member many t) (h t) in
    let later = held-less texts few many h in
    omega arith

room-fewer : (a b : Bool) → a ≡ false → b ≡ true → mark_room a < mark_room b
room-fewer a b e f = rw (e, f) (omega arith)

held-fewer : (texts few many : List (List ℕ)) (t : List ℕ) → HoldsTexts few many → is_member texts t ≡ true →
    is_member few t ≡ false → is_member many t ≡ true → held_of texts few < held_of texts many
held-fewer [] few many t h i e f = absurd cc
held-fewer (u ∷ texts) few many t h i e f = elim (or_cases (is_eq (slice_cmp nat_cmp t u)) (is_member texts t) i) [
  | inl q ↦
      let same : t ≡ u = same-texts t u q in
      let here : mark_room (is_member few u) < mark_room (is_member many u) =
      room-fewer (is_member few u) (is_member many u) (subst (λ (x : List ℕ). is_member few x ≡ false) same e)
      (subst (λ (x : List ℕ). is_member many x ≡ true) same f) in
      let later = held-less texts few many h in
      omega arith
  | inr q ↦
      let here = room-less (is_member few u) (is_member many u) (h u) in
      let later = held-fewer texts few many t h q e f in
      omega arith
]

-- where not each of some texts is in another set, one is lost
lost-fewer : (texts few many other : List (List ℕ)) → HoldsTexts few many → HoldsTexts few other → (some : List (List ℕ)) →
    are_members some texts ≡ true → HoldsTexts some many → are_members some other ≡ false → held_of texts few < held_of texts many
lost-fewer texts few many other h k [] within g e = absurd cc
lost-fewer texts few many other h k (t ∷ some) within g e =
    let inside = and_parts (is_member texts t) (are_members some texts) within in
    (elim (is_member other t) as (λ b. is_member other t ≡ b → b && are_members some other ≡ false →
    held_of texts few < held_of texts many) [
      | true ↦ λ q f. lost-fewer texts few many other h k some inside.1
          (λ u i. g u (or_right (is_eq (slice_cmp nat_cmp u t)) (is_member some u) i)) f
      | false ↦ λ q f. held-fewer texts few many t h inside.0 (no-member (is_member few t) (is_member other t) (k t) q)
          (g t (or_left (is_eq (slice_cmp nat_cmp t t)) (is_member some t) (text-itself t)))
    ]) refl e
  where
    no-member : (a b : Bool) → (a ≡ true → b ≡ true) → b ≡ false → a ≡ false
    no-member true b i q = let r : b ≡ true = i refl in absurd cc
    no-member false b i q = refl

in-both : (one other : List (List ℕ)) → HoldsTexts (both_texts one other) one
in-both one other t m = member-passes (is_member one) (both_texts one other) t m (members-both one other)

in-both_other : (one other : List (List ℕ)) → HoldsTexts (both_texts one other) other
in-both_other one other t m = member-passes (is_member other) (both_texts one other) t m (members-both_other one other)

-- one more than all of them where undo has no earlier buffer: one that comes brings what its lines match
abbrev pub old_has_room : {A : Type 0} → (texts : List (List ℕ)) → Option A → (old_has : List (List ℕ)) → ℕ
old_has_room texts None old_has = suc (length texts)
old_has_room texts (Some old) old_has = held_of texts old_has

falls-old_has : (texts : List (List ℕ)) (one other : Option Old) (has other_has : List (List ℕ)) → are_members has texts ≡ true →
    Falls (old_has_covers other has other_has) (old_has_room texts (old_of_both one other) (old_has_of_both one other has other_has))
    (old_has_room texts one has)
falls-old_has texts None None has other_has within = record { no_more = omega arith; fewer = λ e. absurd cc }
falls-old_has texts (Some one) None has other_has within = record { no_more = omega arith; fewer = λ e. absurd cc }
falls-old_has texts None (Some other) has other_has within =
    let most = held-most texts other_has in record { no_more = omega arith; fewer = λ e. omega arith }
falls-old_has texts (Some one) (Some other) has other_has within = record {
  no_more = held-less texts (both_texts has other_has) has (in-both has other_has);
  fewer = λ e. lost-fewer texts (both_texts has other_has) has other_has (in-both has other_has) (in-both_other has other_has) has within
      (λ t m. m) e;
}

-- all that a state says that some line matches, or matched before its last change
abbrev pub matched : State → List (List ℕ)
matched s = s.matches.has ++ s.matches.old_has

pub matched-parts : (s : State) → (are_members s.matches.has (matched s) ≡ true) × (are_members s.matches.old_has (matched s) ≡ true)
matched-parts s = members-append s.matches.has s.matches.old_has

-- A STATE, beside the patterns and the paths that may ever be remembered, and the patterns that some line may ever be known to match

abbrev pub state_room : (patterns names : List Choice) → (texts : List (List ℕ)) → State → ℕ
state_room patterns names texts s =
    total_room s.zone + (sure_room 26 s.marks + (lacking patterns s.patterns
    + ((flag_room s.replacements.none + (flag_room s.replacements.plain + flag_room s.replacements.split)) + (lacking names s.names
    + ((flag_room s.changed.no + flag_room s.changed.yes) + ((flag_room s.undo.nothing + (flag_room s.undo.same + old_room s.undo.was))
    + ((length s.matches.has + old_has_room texts s.undo.was s.matches.old_has) + fact_room s.facts)))))))

module _ (patterns names : List Choice) (texts : List (List ℕ)) where
  falls-united : (one other : State) (zone : Bounds) → HasZones one → HasZones other →
      are_choices other.patterns patterns ≡ true → are_choices other.names names ≡ true → are_members one.matches.old_has texts ≡ true →
      IsZone zone → Covers (united one other zone) one → Covers (united one other zone) other →
      Falls (covers one other) (state_room patterns names texts (united one other zone)) (state_room patterns names texts one)
  unfolding covers
  falls-united one other zone h k p n o z c d =
      falls-and _ _ _ _ _ _ (falls-zone one.zone other.zone zone h.zone z c.zone d.zone) (
      falls-and _ _ _ _ _ _ (falls-marks one.marks other.marks) (
      falls-and _ _ _ _ _ _ (falls-set patterns one.patterns other.patterns (union one.patterns other.patterns) p c.patterns d.patterns) (
      falls-and _ _ _ _ _ _
      (falls-and _ _ _ _ _ _ (falls-flag one.replacements.none other.replacements.none)
      (falls-and _ _ _ _ _ _ (falls-flag one.replacements.plain other.replacements.plain)
      (falls-flag one.replacements.split other.replacements.split))) (
      falls-and _ _ _ _ _ _ (falls-set names one.names other.names (union one.names other.names) n c.names d.names) (
      falls-and _ _ _ _ _ _
      (falls-and _ _ _ _ _ _ (falls-flag one.changed.no other.changed.no) (falls-flag one.changed.yes other.changed.yes)) (
      falls-and _ _ _ _ _ _ (falls-and _ _ _ _ _ _ (falls-flag one.undo.nothing other.undo.nothing) (
      falls-and _ _ _ _ _ _ (falls-flag one.undo.same other.undo.same) (falls-old one.undo.was other.undo.was h.old k.old c.was d.was)))
      (falls-and _ _ _ _ _ _
      (falls-and _ _ _ _ _ _ (falls-has one.matches.has other.matches.has)
      (falls-old_has texts one.undo.was other.undo.was one.matches.old_has other.matches.old_has o))
      (falls-facts (both_sure one.marks other.marks) one.facts other.zone other.facts))))))))

  falls-join : Laws → (one other : State) → HasZones one → HasZones other → are_choices other.patterns patterns ≡ true →
      are_choices other.names names ≡ true → are_members one.matches.old_has texts ≡ true →
      Falls (covers one other) (state_room patterns names texts (join one other)) (state_room patterns names texts one)
  unfolding join
  falls-join l one other h k p n o =
      falls-united one other (join_of one.zone other.zone) h k p n o (IsZone-join_of one.zone other.zone h.zone k.zone) (l.joined one other)
      (l.joined_other one other)

  falls-widen : Laws → (one other : State) → HasZones one → HasZones other → are_choices other.patterns patterns ≡ true →
      are_choices other.names names ≡ true → are_members one.matches.old_has texts ≡ true →
      Falls (covers one other) (state_room patterns names texts (widen one other)) (state_room patterns names texts one)
  unfolding widen
  falls-widen l one other h k p n o =
      falls-united one other (widening_of one.zone other.zone) h k p n o (IsZone-widening_of one.zone other.zone h.zone k.zone)
      (l.widened one other) (l.widened_other one other)

  pub falls-next : Laws → (before : ℕ) (one other : State) → HasZones one → HasZones other →
      are_choices other.patterns patterns ≡ true → are_choices other.names names ≡ true → are_members one.matches.old_has texts ≡ true →
      Falls (covers one other) (state_room patterns names texts (next_invariant before one other)) (state_room patterns names texts one)
  falls-next l before one other h k p n o =
      either (λ (u : State). Falls (covers one other) (state_room patterns names texts u) (state_room patterns names texts one))
      (nat_lt before 2) (join one other) (widen one other)
      (falls-join l one other h k p n o) (falls-widen l one other h k p n o)
