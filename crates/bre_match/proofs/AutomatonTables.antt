-- How states and their table go on serving a part while they grow and are forgotten, and what a known entry says.
use Rattle.std.proofs.Common.{◌≡◌, ◌≢◌, ℕ, ◌+◌, ◌*◌, ◌<◌, ◌≤◌, ◌⊎◌, inl, inr, List, [], ◌∷◌, ◌++◌, length, take, get_or, set, replicate, min, Option, Some, None, Bool, true, false, cond, eqb, leb, refl, ap, sym, ◌∙◌, subst, arith, slice_get}
use Rattle.std.proofs.lemmas.Bool.Decides.{nat_tests}
use Rattle.std.proofs.lemmas.List.{length-take, get_or-take, get_or-set_same, get_or-set_other, get_or-replicate, get_or_past, length-replicate, length-set, get_or_read, get_or_default}
use Rattle.std.proofs.lemmas.Option.{slice_get_past, slice_get-get_or, same_Some}
use Rattle.std.specs.Prelude.{is_some}
use Rattle.std.proofs.lemmas.Bool.{cases_lt}
use Rattle.bre_parse.specs.Ways.{has_byte_in}
use Rattle.bre_match.specs.declared.state.Starts.{Starts}
use Rattle.bre_match.specs.declared.state.Starts.TheVariants as kind
use Rattle.bre_match.specs.Parts.{Part}
use Rattle.bre_match.specs.Columns.{where_true, peek, step}
use Rattle.bre_match.specs.Marks.{first_mark, other_marks, fill, marks_of}
use Rattle.bre_match.specs.States.{part_for, first_row, own_weight, own_row, marks_before, as_state, transition}
use Rattle.bre_match.specs.Automata.{symbol_byte, state_in, meaning_of, IsEntry, entry_at, EntriesHold, Grows, SameEntries, Serves}
use Rattle.bre_match.proofs.Automata.{Alike, same_peek, same_step}

-- What a step gives once, it gives at each place that looks alike

within_or_end : (s : List ℕ) (x : ℕ) → x ≤ length s → (x < length s) ⊎ (x ≡ length s)
within_or_end s x le = grind arith

at_end : (s : List ℕ) (x : ℕ) → x ≤ length s → eqb x (length s) ≡ elim (slice_get s x) [ None ↦ true | Some b ↦ false ]
at_end s x le =
    elim (within_or_end s x le) [
      | inl lt ↦ (let test : eqb x (length s) ≡ false = grind (arith, nat_tests) in test ∙ sym (ap is_end (slice_get-get_or s x 0 lt)))
      | inr e ↦ (let test : eqb x (length s) ≡ true = grind (arith, nat_tests) in test ∙ sym (ap is_end (slice_get_past s x (omega arith))))
    ]
  where
    is_end : Option ℕ → Bool
    is_end o = elim o [ None ↦ true | Some b ↦ false ]

alike : (s : List ℕ) (x : ℕ) (t : List ℕ) (y : ℕ) → x ≤ length s → y ≤ length t → slice_get s x ≡ slice_get t y → eqb x 0 ≡ eqb y 0 →
    Alike s x t y
alike s x t y le high e f = record {
  byte = e;
  start = f;
  end = at_end s x le ∙ ap (λ o. elim o [ None ↦ true | Some b ↦ false ]) e ∙ sym (at_end t y high);
}

pub same_transition : (p : Part) (ms : List (Option ℕ)) (s : List ℕ) (x : ℕ) (t : List ℕ) (y : ℕ) → Alike s x t y →
    transition p ms s x ≡ transition p ms t y
same_transition p ms s x t y h =
    ap (λ (o : Option ℕ). (is_some o, as_state (marks_of (step (fill p ms) s x (Some 0))))) (same_peek (fill p ms) s x t y (Some 0) h)
    ∙ ap (λ q. (is_some (peek (fill p ms) t y (Some 0)), as_state (marks_of q))) (same_step (fill p ms) s x t y (Some 0) h)

-- Entries of a table

same_slot : (i a j b : ℕ) → a ≤ 256 → b ≤ 256 → 512 * i + a ≡ 512 * j + b → (i ≡ j) × (a ≡ b)
same_slot i a j b le high e = (omega arith, omega arith)

same_or_other : (m n : ℕ) → (m ≡ n) ⊎ (m ≢ n)
same_or_other m n = by_cases (eqb m n) refl
  where
    by_cases : (b : Bool) → eqb m n ≡ b → (m ≡ n) ⊎ (m ≢ n)
    by_cases true e = inl (grind (arith, nat_tests))
    by_cases false e = inr (λ f. grind (arith, nat_tests))

-- what a table tells when an entry is put into it
pub entry_put : (starts : Starts) (part : Part) (states : List (List (Option ℕ))) (table new : List ℕ) (state symbol slot entry : ℕ) (s : List ℕ)
    (x : ℕ) → Serves starts part states table → state < length states → symbol ≤ 256 → slot ≡ 512 * state + symbol →
    IsEntry states entry → meaning_of states entry ≡ Some (transition (part_for starts part) (get_or states state []) s x) →
    symbol_byte symbol ≡ slice_get s x → x ≤ length s → eqb x 0 ≡ eqb state 0 → new ≡ set table slot entry →
    Serves starts part states new
entry_put starts part states table new state symbol slot entry s x h lt le is good tells at high start e =
    subst (λ l. Serves starts part states l) (sym e)
    (record {
      few = h.few;
      first = h.first;
      second = h.second;
      room = subst (λ n. 512 * length states ≤ n) (sym length_set) h.room;
      fresh = fresh_still;
      entries = good_still;
      hold = hold_still;
    })
  where
    within : slot < length table
    within = let room = h.room in omega arith

    length_set : length (set table slot entry) ≡ length table
    length_set = length-set table slot entry

    fresh_still : (k : ℕ) → 512 * length states ≤ k → get_or (set table slot entry) k 65535 ≡ 65535
    fresh_still k after =
        get_or-set_other table slot k entry 65535 (λ same. let few = h.few in omega arith) ∙ h.fresh k after

    put : (k : ℕ) → k ≡ slot → get_or (set table slot entry) k 65535 ≡ entry
    put k same = ap (λ j. get_or (set table slot entry) j 65535) same ∙ get_or-set_same table slot entry 65535 within

    good_still : (k : ℕ) → IsEntry states (get_or (set table slot entry) k 65535)
    good_still k =
        elim (same_or_other k slot) [
          | inl same ↦ subst (λ v. IsEntry states v) (sym (put k same)) good
          | inr other ↦ subst (λ v. IsEntry states v) (sym (get_or-set_other table slot k entry 65535 other)) (h.entries k)
        ]

    holds_here : (b : ℕ) (answer : Bool × List (Option ℕ)) (t : List ℕ) (y : ℕ) → meaning_of states entry ≡ Some answer → b ≡ symbol →
        y ≤ length t → slice_get t y ≡ symbol_byte b → eqb y 0 ≡ eqb state 0 → transition (part_for starts part) (get_or states state []) t y ≡ answer
    holds_here b answer t y tells_it same low byte first =
        same_transition (part_for starts part) (get_or states state []) t y s x
        (alike t y s x low high (byte ∙ ap symbol_byte same ∙ at) (first ∙ sym start))
        ∙ same_Some (transition (part_for starts part) (get_or states state []) s x) answer (sym tells ∙ tells_it)

    hold_still : EntriesHold (part_for starts part) states (set table slot entry)
    hold_still i b answer t y below low tells_it high_y byte first =
        elim (same_or_other (512 * i + b) slot) [
          | inl same ↦ (
              let both : (i ≡ state) × (b ≡ symbol) = same_slot i b state symbol low le (same ∙ is) in
              let value : entry_at (set table slot entry) i b ≡ entry = put (512 * i + b) same in
              ap (λ j. transition (part_for starts part) (get_or states j []) t y) both.0
              ∙ holds_here b answer t y (sym (ap (λ v. meaning_of states v) value) ∙ tells_it) both.1 high_y byte
              (first ∙ ap (λ j. eqb j 0) both.0))
          | inr other ↦
              h.hold i b answer t y below low
              (sym (ap (λ v. meaning_of states v) (get_or-set_other table slot (512 * i + b) entry 65535 other)) ∙ tells_it) high_y byte
              first
        ]

-- one more state
meaning_of-grown : (old new : List (List (Option ℕ))) (entry : ℕ) → Grows old new → IsEntry old entry →
    meaning_of new entry ≡ meaning_of old entry
meaning_of-grown old new entry grows good = by_cases (eqb entry 65535) refl
  where
    says : List (List (Option ℕ)) → Bool × List (Option ℕ)
    says states = (leb 256 entry, get_or states (state_in entry) [])

    by_cases : (a : Bool) → eqb entry 65535 ≡ a → cond {A = Option (Bool × List (Option ℕ))} a None (Some (says new)) ≡
        cond {A = Option (Bool × List (Option ℕ))} a None (Some (says old))
    by_cases true e = refl
    by_cases false e =
        ap (λ (r : List (Option ℕ)). let p : Bool × List (Option ℕ) = (leb 256 entry, r) in Some p)
        (grows.2 (state_in entry) (let k = good e in k.1))

pub grown : (starts : Starts) (part : Part) (old new : List (List (Option ℕ))) (table wider : List ℕ) → 2 ≤ length old →
    length old < 128 → Grows old new → SameEntries wider table → 512 * length new ≤ length wider → Serves starts part old table →
    Serves starts part new wider
grown starts part old new table wider begun room grows same large h = record {
  few = let b = grows.1 in omega arith;
  first = kept 0 (omega arith) h.first;
  second = kept 1 (omega arith) h.second;
  room = large;
  fresh = λ k after. same k ∙ h.fresh k (let b = grows.0 in omega arith);
  entries = λ k. subst (λ v. IsEntry new v) (sym (same k)) (good_still k);
  hold = hold_still;
}
  where
    kept : (i : ℕ) → i < 2 → get_or old i (first_row starts) ≡ first_row starts → get_or new i (first_row starts) ≡ first_row starts
    kept i lt e =
        let b = grows.0 in
        get_or_default new i (first_row starts) [] (omega arith)
        ∙ grows.2 i (omega arith)
        ∙ get_or_default old i [] (first_row starts) (omega arith)
        ∙ e

    good_still : (k : ℕ) → IsEntry new (get_or table k 65535)
    good_still k m = (let a = h.entries k m in let c = a.1 in let b = grows.0 in (a.0, omega arith))

    said_before : (i b : ℕ) (answer : Bool × List (Option ℕ)) → meaning_of new (entry_at wider i b) ≡ Some answer →
        meaning_of old (entry_at table i b) ≡ Some answer
    said_before i b answer tells_it =
        sym (meaning_of-grown old new (entry_at table i b) grows (h.entries (512 * i + b)))
        ∙ ap (λ v. meaning_of new v) (sym (same (512 * i + b)))
        ∙ tells_it

    hold_still : EntriesHold (part_for starts part) new wider
    hold_still i b answer t y below low tells_it high byte first =
        elim (older i) [
          | inl before ↦
              ap (λ r. transition (part_for starts part) r t y) (grows.2 i before)
              ∙ h.hold i b answer t y before low (said_before i b answer tells_it) high byte first
          | inr after ↦ (
              let unknown : entry_at wider i b ≡ 65535 = same (512 * i + b) ∙ h.fresh (512 * i + b) (omega arith) in
              let e = sym (ap (λ v. meaning_of new v) unknown) ∙ tells_it in
              absurd (cc))
        ]
      where
        older : (i : ℕ) → (i < length old) ⊎ (length old ≤ i)
        older i = grind arith

-- tables in which nothing is known

unknown_everywhere : (n : ℕ) (table : List ℕ) → table ≡ replicate n 65535 → (k : ℕ) → get_or table k 65535 ≡ 65535
unknown_everywhere n table is k =
    ap (λ l. get_or l k 65535) is
    ∙ elim (cases_lt k n) [
      | inl lt ↦ get_or-replicate n k 65535 65535 lt
      | inr le ↦ get_or_past (replicate n 65535) k 65535 (subst (λ m. m ≤ k) (sym (length-replicate {A = ℕ} n 65535)) le)
    ]

nothing_said : (part : Part) (states : List (List (Option ℕ))) (table : List ℕ) → ((k : ℕ) → get_or table k 65535 ≡ 65535) →
    EntriesHold part states table
nothing_said part states table unknown i b answer t y below low tells_it high byte first =
    let f = sym (ap (λ v. meaning_of states v) (unknown (512 * i + b))) ∙ tells_it in
    absurd (cc)

unknown_entry : (states : List (List (Option ℕ))) (entry : ℕ) → entry ≡ 65535 → IsEntry states entry
unknown_entry states entry is m = absurd (let u : eqb entry 65535 ≡ true = ap (λ v. eqb v 65535) is in cc)

pub nothing_known : (starts : Starts) (part : Part) → Serves starts part [] []
nothing_known starts part = record {
  few = omega arith;
  first = refl;
  second = refl;
  room = omega arith;
  fresh = λ k past. refl;
  entries = λ k. unknown_entry [] 65535 refl;
  hold = nothing_said (part_for starts part) [] [] (λ k. refl);
}

pub first_two : (starts : Starts) (part : Part) (states : List (List (Option ℕ))) (table : List ℕ) →
    states ≡ first_row starts ∷ first_row starts ∷ [] → table ≡ replicate 1024 65535 → Serves starts part states table
first_two starts part states table is e =
    let unknown = unknown_everywhere 1024 table e in
    let size : length table ≡ 1024 = ap length e ∙ length-replicate {A = ℕ} 1024 65535 in
    let two : length states ≡ 2 = ap length is in
    record {
      few = omega arith;
      first = ap (λ (l : List (List (Option ℕ))). get_or l 0 (first_row starts)) is;
      second = ap (λ (l : List (List (Option ℕ))). get_or l 1 (first_row starts)) is;
      room = omega arith;
      fresh = λ k past. unknown k;
      entries = λ k. unknown_entry states (get_or table k 65535) (unknown k);
      hold = nothing_said (part_for starts part) states table unknown;
    }

pub forgotten : (starts : Starts) (part : Part) (old states : List (List (Option ℕ))) (before table : List ℕ) (n : ℕ) →
    Serves starts part old before → states ≡ take 2 old → n ≡ length before → table ≡ replicate n 65535 →
    Serves starts part states table
forgotten starts part old states before table n h is m e =
    let unknown = unknown_everywhere n table e in
    let size : length table ≡ n = ap length e ∙ length-replicate {A = ℕ} n 65535 in
    let two : length states ≡ min 2 (length old) = ap length is ∙ length-take 2 old in
    let fewer : length states ≤ length old = omega arith in
    let few = h.few in
    let room = h.room in
    record {
      few = omega arith;
      first =
          ap (λ (l : List (List (Option ℕ))). get_or l 0 (first_row starts)) is
          ∙ get_or-take 2 old 0 (first_row starts) (omega arith)
          ∙ h.first;
      second =
          ap (λ (l : List (List (Option ℕ))). get_or l 1 (first_row starts)) is
          ∙ get_or-take 2 old 1 (first_row starts) (omega arith)
          ∙ h.second;
      room = omega arith;
      fresh = λ k past. unknown k;
      entries = λ k. unknown_entry states (get_or table k 65535) (unknown k);
      hold = nothing_said (part_for starts part) states table unknown;
    }

-- what an entry says

pub meaning_of-state : (states : List (List (Option ℕ))) (entry : ℕ) → eqb entry 65535 ≡ false →
    meaning_of states entry ≡ Some (leb 256 entry, get_or states (state_in entry) [])
meaning_of-state states entry e =
    let p : Bool × List (Option ℕ) = (leb 256 entry, get_or states (state_in entry) []) in
    ap (λ b. cond {A = Option (Bool × List (Option ℕ))} b None (Some p)) e

-- an entry that says something is known
pub meaning_is_known : (states : List (List (Option ℕ))) (entry : ℕ) (answer : Bool × List (Option ℕ)) →
    meaning_of states entry ≡ Some answer → entry ≢ 65535
meaning_is_known states entry answer e f = let g = sym (ap (λ v. meaning_of states v) f) ∙ e in cc

pub entry_says : (states : List (List (Option ℕ))) (entry : ℕ) (is_end : Bool) (row : List (Option ℕ)) →
    meaning_of states entry ≡ Some (is_end, row) → (leb 256 entry ≡ is_end) × (get_or states (state_in entry) [] ≡ row)
entry_says states entry is_end row e =
    let known = meaning_is_known states entry (is_end, row) e in
    let both : (leb 256 entry, get_or states (state_in entry) []) ≡ (is_end, row) =
    same_Some (leb 256 entry, get_or states (state_in entry) []) (is_end, row)
    (sym (meaning_of-state states entry (grind (arith, nat_tests))) ∙ e) in
    (ap (λ (p : Bool × List (Option ℕ)). p.0) both, ap (λ (p : Bool × List (Option ℕ)). p.1) both)

pub entry_made : (states : List (List (Option ℕ))) (number entry : ℕ) (is_end : Bool) → number < 128 →
    entry ≡ cond is_end (number + 256) number →
    (meaning_of states entry ≡ Some (is_end, get_or states number [])) × (state_in entry ≡ number)
entry_made states number entry true lt e =
    let end : leb 256 entry ≡ true = grind (arith, nat_tests) in
    let number_is : state_in entry ≡ number = omega arith in (
      meaning_of-state states entry (grind (arith, nat_tests))
          ∙ ap (λ b. Some (b, get_or states (state_in entry) [])) end
          ∙ ap (λ i. Some (true, get_or states i [])) number_is,
      number_is,
    )
entry_made states number entry false lt e =
    let end : leb 256 entry ≡ false = grind (arith, nat_tests) in
    let number_is : state_in entry ≡ number = omega arith in (
      meaning_of-state states entry (grind (arith, nat_tests))
          ∙ ap (λ b. Some (b, get_or states (state_in entry) [])) end
          ∙ ap (λ i. Some (false, get_or states i [])) number_is,
      number_is,
    )

-- A step of the part that an automaton goes through, by one of the pattern's own part

pub no_byte : (byte : Option ℕ) → has_byte_in false [] byte ≡ false
no_byte None = refl
no_byte (Some b) = refl

own_peek : (starts : Starts) (part : Part) (row : List (Option ℕ)) (s : List ℕ) (x : ℕ) →
    peek (fill part (own_row starts row)) s x (own_weight starts row) ≡ peek (fill (part_for starts part) row) s x (Some 0)
own_peek kind.Every part row s x = refl
own_peek kind.First part row s x = refl

own_marks : (starts : Starts) (part : Part) (row : List (Option ℕ)) (s : List ℕ) (x : ℕ) →
    marks_before starts ++ marks_of (step (fill part (own_row starts row)) s x (own_weight starts row)) ≡
    marks_of (step (fill (part_for starts part) row) s x (Some 0))
own_marks kind.Every part row s x = refl
own_marks kind.First part row s x =
    ap (λ b. where_true b (Some 0) ∷ marks_of (step (fill part (other_marks row)) s x (first_mark row))) (sym (no_byte (slice_get s x)))

-- an entry for what a step gave says what the transition is
pub step_learned : (starts : Starts) (part : Part) (new made : List (List (Option ℕ)))
    (read marks rest empty before next : List (Option ℕ)) (s : List ℕ) (x state entry : ℕ) (weight out : Option ℕ) →
    state < length made → Grows made new → read ≡ get_or made state read → marks ≡ read → empty ≡ [] →
    before ≡ empty ++ marks_before starts → weight ≡ own_weight starts marks → rest ≡ own_row starts marks →
    out ≡ peek (fill part rest) s x weight → next ≡ before ++ marks_of (step (fill part rest) s x weight) →
    meaning_of new entry ≡ Some (is_some out, as_state next) →
    meaning_of new entry ≡ Some (transition (part_for starts part) (get_or new state []) s x)
step_learned starts part new made read marks rest empty before next s x state entry weight out lt grows r m b c w k o n e =
    e
    ∙ ap (λ (v : Option ℕ). Some (is_some v, as_state next))
    (o ∙ ap (λ v. peek (fill part rest) s x v) w ∙ ap (λ l. peek (fill part l) s x (own_weight starts marks)) k ∙ own_peek starts part marks s x)
    ∙ ap (λ l. Some (is_some (peek (fill (part_for starts part) marks) s x (Some 0)), as_state l))
    (n
    ∙ ap (λ v. before ++ marks_of (step (fill part rest) s x v)) w
    ∙ ap (λ l. before ++ marks_of (step (fill part l) s x (own_weight starts marks))) k
    ∙ ap (λ l. l ++ marks_of (step (fill part (own_row starts marks)) s x (own_weight starts marks))) (c ∙ ap (λ l. l ++ marks_before starts) b)
    ∙ own_marks starts part marks s x)
    ∙ ap (λ l. Some (transition (part_for starts part) l s x)) (m ∙ get_or_read made state read lt r [] ∙ sym (grows.2 state lt))

-- a known entry says what the transition is
pub known_entry_holds : (starts : Starts) (part : Part) (s : List ℕ) (states : List (List (Option ℕ))) (table : List ℕ)
    (x state symbol slot entry : ℕ) → x ≤ length s → Serves starts part states table → state < length states → eqb x 0 ≡ eqb state 0 →
    symbol ≤ 256 → symbol_byte symbol ≡ slice_get s x → slot ≡ 512 * state + symbol → entry ≡ get_or table slot 65535 →
    entry ≢ 65535 → meaning_of states entry ≡ Some (transition (part_for starts part) (get_or states state []) s x)
known_entry_holds starts part s states table x state symbol slot entry high h within start le at is e known =
    let says = meaning_of-state states entry (grind (arith, nat_tests)) in
    says ∙ ap Some (sym (h.hold state symbol _ s x within le (ap (λ v. meaning_of states v) here ∙ says) high (sym at) start))
  where
    here : entry_at table state symbol ≡ entry
    here = ap (λ j. get_or table j 65535) (sym is) ∙ sym e

pub known_entry : (starts : Starts) (part : Part) (states : List (List (Option ℕ))) (table : List ℕ) (slot entry : ℕ) →
    Serves starts part states table → entry ≡ get_or table slot 65535 → IsEntry states entry
known_entry starts part states table slot entry h e = subst (λ v. IsEntry states v) (sym e) (h.entries slot)
