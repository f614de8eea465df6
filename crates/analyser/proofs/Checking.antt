-- What the checker asks of notes that follow from a state: all of it holds where no need fails, and else all before the need that fails.
use Rattle.std.proofs.Common.{◌≡◌, ◌↔◌, ◌<◌, ◌≤◌, inl, inr, ◌+◌, ℕ, zero, suc, Bool, true, false, not, ◌||◌, List, [], ◌∷◌, ◌++◌, length, Option, None, Some, IsTrue, refl, sym, subst, arith}
use Rattle.std.specs.Prelude.{nat_lt}
use Rattle.std.specs.List.{All, list_all}
use Rattle.std.proofs.lemmas.List.Elements.{All-nil, All-cons}
use Rattle.ed_base.specs.declared.fault.Fault.{Fault}
use Rattle.ed_syntax.specs.Commands.{Command, Step, Script}
use Rattle.ed_syntax.specs.meaning.Verbs.{is_global}
use Rattle.ed_rules.specs.declared.state.State.{State}
use Rattle.ed_rules.specs.Order.{join, widen, Covers}
use Rattle.ed_rules.specs.Files.{written_paths}
use Rattle.cert_check.specs.declared.sight.Sight.{Sight}
use Rattle.cert_check.specs.checker.Covering.{covers}
use Rattle.cert_check.specs.declared.checker.verdict.Place.{Place}
use Rattle.cert_check.specs.Certificates.{Looped, Note}
use Rattle.cert_check.specs.checker.Valid.{Check, at_place, command_at, inner_at, counted, are_met, left_by, left_after, is_listed, are_listed, command_checks, list_checks, looped_checks, step_checks, checks_from, runs_once, turn_checks, entry_of}
use Rattle.analyser.specs.declared.analysis.Start.{Start}
use Rattle.analyser.specs.Rounds.{all_met, left_by_list, AreInner, InnerFail, turned, round_invariant, IsSettled}
use Rattle.analyser.specs.Following.{IsKnownOfList, IsNote, NeedFails, AreNotes, NotesFail, result_from, list_paths, looped_paths, paths_from, sight_over, begun}
use Rattle.analyser.specs.Analysis.{IsFailure}
use Rattle.analyser.specs.Checked.{IsBefore, IsBeforeInside, ChecksHoldBefore}
use Rattle.analyser.proofs.Listing.{listed-each}
use Rattle.analyser.proofs.Rounding.{inner-met}
use Rattle.analyser.proofs.Results.{either}
use Rattle.analyser.proofs.Sets.{append-all}

-- the laws that this rests on
pub record Laws : Type 0 where
  pub same : (s : State) → Covers s s
  pub join_on : (one other strong : State) → Covers one strong → Covers (join one other) strong
  pub widen_on : (old new strong : State) → Covers old strong → Covers (widen old new) strong
  pub decided : (weak strong : State) → IsTrue (covers weak strong) ↔ Covers weak strong

pub covers-same : Laws → (weak s : State) → weak ≡ s → covers weak s ≡ true
covers-same k weak s e = subst (λ (t : State). covers t s ≡ true) (sym e) ((k.decided s s).1 (k.same s))

-- THE INVARIANT of a list's last round

round-covers : Laws → (w : Sight) (x : Step) (first : State) (n : ℕ) → Covers (round_invariant w x first n) first
round-covers k w x first zero = k.same first
round-covers k w x first (suc n) =
    let invariant : State = round_invariant w x first n in
    let left : State = turned w x invariant in
    let before : Covers invariant first = round-covers k w x first n in
    either (λ (u : State). Covers u first) (nat_lt n 2) (join invariant left) (widen invariant left)
    (k.join_on invariant left first before) (k.widen_on invariant left first before)

settled-covers : Laws → (w : Sight) (x : Step) (first invariant : State) → IsSettled w x first invariant → covers invariant first ≡ true
settled-covers k w x first invariant s =
    subst (λ (u : State). covers u first ≡ true) (sym s.is) ((k.decided (round_invariant w x first s.before) first).1 (round-covers k w x first s.before))

not-or : (met covered : Bool) → met ≡ true → not met || covered ≡ true → covered ≡ true
not-or true covered e f = f
not-or false covered e f = absurd cc

or-second : (a b : Bool) → a ≡ false → (a || b) ≡ true → b ≡ true
or-second true b e f = absurd cc
or-second false b e f = f

-- WHERE NO NEED FAILS

-- of each check is asked what follows where it holds
module _ (k : Laws) (w : Sight) (P : Check → Type 0) (holds : (check : Check) → check.holds ≡ true → P check) (writes : List (List ℕ)) where
  one-holds : (place : Place) (b : Bool) (later : List Check) → b ≡ true → All P later → All P (at_place place b ∷ later)
  one-holds place b later e rest = All-cons P (at_place place b) later (holds (at_place place b) e) rest

  command-holds : (place : Place) (c : Command) (known coming : State) (later : List Check) → known ≡ coming → are_met c known ≡ true → are_listed writes c known ≡ true → All P later →
      All P (command_checks place writes c known coming later)
  command-holds place c known coming later same met listed rest =
      one-holds place (covers known coming) (at_place place (are_met c known) ∷ at_place place (are_listed writes c known) ∷ later) (covers-same k known coming same)
      (one-holds place (are_met c known) (at_place place (are_listed writes c known) ∷ later) met (one-holds place (are_listed writes c known) later listed rest))

  list-holds : (number inner : ℕ) (turned_checks : ℕ → State → List Check) (cs : List Command) (s : State) (ts : List State) → AreInner w cs s ts → list_all (is_listed writes) (list_paths cs ts) ≡ true →
      All P (turned_checks (inner + length cs) (left_by_list w cs s)) → All P (list_checks w number inner writes s cs ts turned_checks)
  list-holds number inner turned_checks [] s ts h p rest = let z : inner + 0 ≡ inner = omega arith in subst (λ n. All P (turned_checks n s)) z rest
  list-holds number inner turned_checks (c ∷ cs) s [] h p rest = absurd h
  list-holds number inner turned_checks (c ∷ cs) s (t ∷ ts) h p rest =
      let listed = append-all (is_listed writes) (written_paths c.verb t) (list_paths cs ts) p in
      let same : s ≡ t = sym h.0 in
      let z : inner + length (c ∷ cs) ≡ inner + 1 + length cs = omega arith in
      command-holds (inner_at number inner) c t s (list_checks w number (inner + 1) writes (left_by w c t) cs ts turned_checks) h.0 (subst (λ (u : State). are_met c u ≡ true) same h.1) listed.0
      (list-holds number (inner + 1) turned_checks cs (left_by w c t) ts (subst (λ (u : State). AreInner w cs (left_by w c u) ts) same h.2) listed.1
      (subst (λ (u : State). All P (turned_checks (inner + 1 + length cs) (left_by_list w cs (left_by w c u)))) same (subst (λ n. All P (turned_checks n (left_by_list w cs (left_by w c s)))) z rest)))

  turn-holds : (once : Bool) (place : Place) (invariant left : State) (later : List Check) → (once ≡ false → covers invariant left ≡ true) → All P later →
      All P (turn_checks once place invariant left later)
  turn-holds true place invariant left later covered rest = rest
  turn-holds false place invariant left later covered rest = one-holds place (covers invariant left) later (covered refl) rest

  looped-holds : (number : ℕ) (global : Bool) (x : Step) (s : State) (l : Option Looped) (later : List Check) → IsKnownOfList w global x s l → list_all (is_listed writes) (looped_paths x.list l) ≡ true →
      All P later → All P (looped_checks w l number writes x s later)
  looped-holds number false x s None later h p rest = rest
  looped-holds number false x s (Some l) later h p rest = absurd h
  looped-holds number true x s None later h p rest = absurd h
  looped-holds number true x s (Some l) later h p rest =
      let once : Bool = runs_once w x l.invariant in
      let turned_checks : ℕ → State → List Check = λ (inner : ℕ) (left : State). turn_checks once (inner_at number inner) l.invariant left later in
      one-holds (command_at number) (covers l.invariant (left_by w x.command s)) (list_checks w number 1 writes (entry_of w x l.invariant) x.list l.inner turned_checks) (settled-covers k w x (left_by w x.command s) l.invariant h.0)
      (list-holds number 1 turned_checks x.list (entry_of w x l.invariant) l.inner h.1 p
      (turn-holds once (inner_at number (1 + length x.list)) l.invariant (turned w x l.invariant) later
      (λ many. not-or (all_met w x.list (entry_of w x l.invariant)) (covers l.invariant (turned w x l.invariant)) (inner-met w x.list (entry_of w x l.invariant) l.inner h.1)
      (or-second once _ many h.0.last)) rest))

  pub note-holds : (number : ℕ) (x : Step) (s : State) (n : Note) (later : List Check) → IsNote w x s n → list_all (is_listed writes) (written_paths x.command.verb n.state ++ looped_paths x.list n.looped) ≡ true →
      All P later → All P (step_checks w number writes x n s later)
  note-holds number x s n later h p rest =
      let listed = append-all (is_listed writes) (written_paths x.command.verb n.state) (looped_paths x.list n.looped) p in
      let same : s ≡ n.state = sym h.state in
      command-holds (command_at number) x.command n.state s (looped_checks w n.looped number writes x n.state later) h.state (subst (λ (u : State). are_met x.command u ≡ true) same h.met) listed.0
      (looped-holds number (is_global x.command.verb) x n.state n.looped later (subst (λ (u : State). IsKnownOfList w (is_global x.command.verb) x u n.looped) same h.list) listed.1 rest)

  pub notes-hold : (end : ℕ → State → List Check) (number : ℕ) (s : State) (xs : List Step) (ns : List Note) → AreNotes w xs s ns → list_all (is_listed writes) (paths_from xs ns) ≡ true →
      All P (end (number + length xs) (result_from w xs s ns)) → All P (checks_from w writes end number s xs ns)
  notes-hold end number s [] ns h p rest = let z : number + 0 ≡ number = omega arith in subst (λ n. All P (end n s)) z rest
  notes-hold end number s (x ∷ xs) [] h p rest = absurd h
  notes-hold end number s (x ∷ xs) (n ∷ ns) h p rest =
      let listed = append-all (is_listed writes) (written_paths x.command.verb n.state ++ looped_paths x.list n.looped)
      (paths_from xs ns) p in
      let same : s ≡ n.state = sym h.0.state in
      let z : number + length (x ∷ xs) ≡ number + 1 + length xs = omega arith in
      note-holds number x s n (checks_from w writes end (number + 1) (left_after w n.looped x n.state) xs ns) h.0 listed.0
      (notes-hold end (number + 1) (left_after w n.looped x n.state) xs ns (subst (λ (u : State). AreNotes w xs (left_after w n.looped x u) ns) same h.1) listed.1
      (subst (λ (u : State). All P (end (number + 1 + length xs) (result_from w xs (left_after w n.looped x u) ns))) same (subst (λ m. All P (end m (result_from w xs (left_after w n.looped x s) ns))) z rest)))

-- WHERE A NEED FAILS

not-before-own : (number : ℕ) (place : Place) → place.command ≡ number → place.inner ≡ None → IsBefore (command_at number) place → ⊥
not-before-own number place here own (inl less) = omega arith
not-before-own number place here own (inr before) = subst (λ (o : Option ℕ). IsBeforeInside None o) own before.1

not-before-inner : (number inner : ℕ) (other : Option ℕ) (place : Place) → place.command ≡ number → place.inner ≡ other → ((k : ℕ) → other ≡ Some k → k ≤ inner) → IsBefore (inner_at number inner) place → ⊥
not-before-inner number inner other place here is above (inl less) = omega arith
not-before-inner number inner None place here is above (inr before) = subst (λ (o : Option ℕ). IsBeforeInside (Some inner) o) is before.1
not-before-inner number inner (Some k) place here is above (inr before) =
    let less : inner < k = subst (λ (o : Option ℕ). IsBeforeInside (Some inner) o) is before.1 in
    let most : k ≤ inner = above k refl in
    omega arith

-- no check is left after the notes
none-left : (w : Sight) (P : Check → Type 0) (writes : List (List ℕ)) (number : ℕ) (s : State) (xs : List Step) → All P (checks_from w writes (λ number left. []) number s xs [])
none-left w P writes number s [] = All-nil P
none-left w P writes number s (x ∷ xs) = All-nil P

module _ (k : Laws) (w : Sight) (place : Place) (writes : List (List ℕ)) where
  -- a check holds if it comes before the place
  abbrev HoldsBefore : Check → Type 0
  HoldsBefore check = IsBefore check.place place → check.holds ≡ true

  holds : (check : Check) → check.holds ≡ true → HoldsBefore check
  holds check e before = e

  not-asked : (at : Place) (b : Bool) (later : List Check) → (IsBefore at place → ⊥) → All HoldsBefore later → All HoldsBefore (at_place at b ∷ later)
  not-asked at b later not rest = All-cons HoldsBefore (at_place at b) later (λ before. absurd (not before)) rest

  turn-not-asked : (once : Bool) (at : Place) (invariant left : State) (later : List Check) → (IsBefore at place → ⊥) → All HoldsBefore later →
      All HoldsBefore (turn_checks once at invariant left later)
  turn-not-asked true at invariant left later not rest = rest
  turn-not-asked false at invariant left later not rest = not-asked at (covers invariant left) later not rest

  command-not-asked : (at : Place) (c : Command) (known coming : State) (later : List Check) → (IsBefore at place → ⊥) → All HoldsBefore later → All HoldsBefore (command_checks at writes c known coming later)
  command-not-asked at c known coming later not rest =
      not-asked at (covers known coming) (at_place at (are_met c known) ∷ at_place at (are_listed writes c known) ∷ later) not
      (not-asked at (are_met c known) (at_place at (are_listed writes c known) ∷ later) not (not-asked at (are_listed writes c known) later not rest))

  -- the list goes on after its last noted command
  list-ends : (number inner : ℕ) (turned_checks : ℕ → State → List Check) (cs : List Command) (s : State) → All HoldsBefore (turned_checks inner s) → All HoldsBefore (list_checks w number inner writes s cs [] turned_checks)
  list-ends number inner turned_checks [] s rest = rest
  list-ends number inner turned_checks (c ∷ cs) s rest = rest

  list-fails : (number inner last : ℕ) (turned_checks : ℕ → State → List Check) (why : Fault) (cs : List Command) (s : State) (ts : List State) → InnerFail w why cs s ts →
      place.command ≡ number → place.inner ≡ Some last → last + 1 ≡ inner + length ts → list_all (is_listed writes) (list_paths cs ts) ≡ true →
      ((n : ℕ) (u : State) → last < n → All HoldsBefore (turned_checks n u)) → All HoldsBefore (list_checks w number inner writes s cs ts turned_checks)
  list-fails number inner last turned_checks why [] s ts h here is size p rest = absurd h
  list-fails number inner last turned_checks why (c ∷ cs) s [] h here is size p rest = absurd h
  list-fails number inner last turned_checks why (c ∷ cs) s (t ∷ []) h here is size p rest =
      command-not-asked (inner_at number inner) c t s (list_checks w number (inner + 1) writes (left_by w c t) cs [] turned_checks)
      (not-before-inner number inner (Some last) place here is (λ m e. let same : last ≡ m = cc in omega arith))
      (list-ends number (inner + 1) turned_checks cs (left_by w c t) (rest (inner + 1) (left_by w c t) (omega arith)))
  list-fails number inner last turned_checks why (c ∷ cs) s (t ∷ u ∷ ts) h here is size p rest =
      let listed = append-all (is_listed writes) (written_paths c.verb t) (list_paths cs (u ∷ ts)) p in
      let same : s ≡ t = sym h.0 in
      command-holds k w HoldsBefore holds writes (inner_at number inner) c t s (list_checks w number (inner + 1) writes (left_by w c t) cs (u ∷ ts) turned_checks) h.0 (subst (λ (v : State). are_met c v ≡ true) same h.1) listed.0
      (list-fails number (inner + 1) last turned_checks why cs (left_by w c t) (u ∷ ts) (subst (λ (v : State). InnerFail w why cs (left_by w c v) (u ∷ ts)) same h.2) here is (omega arith) listed.1 rest)

  -- the last note is of the command with the need that fails
  need-fails : (inner : Option ℕ) (number : ℕ) (why : Fault) (x : Step) (s : State) (l : Option Looped) (known : State) (later : List Check) → NeedFails w inner why x s l → known ≡ s → place.command ≡ number →
      place.inner ≡ inner → list_all (is_listed writes) (written_paths x.command.verb known ++ looped_paths x.list l) ≡ true → All HoldsBefore later →
      All HoldsBefore (step_checks w number writes x (record { state = known; looped = l }) s later)
  need-fails None number why x s None known later h same here is p rest = command-not-asked (command_at number) x.command known s later (not-before-own number place here is) rest
  need-fails None number why x s (Some l) known later h same here is p rest = absurd h
  need-fails (Some inner) number why x s None known later h same here is p rest = absurd h
  need-fails (Some inner) number why x s (Some l) known later h same here is p rest =
      let listed = append-all (is_listed writes) (written_paths x.command.verb known) (list_paths x.list l.inner) p in
      let once : Bool = runs_once w x l.invariant in
      let turned_checks : ℕ → State → List Check = λ (n : ℕ) (left : State). turn_checks once (inner_at number n) l.invariant left later in
      let counts : inner ≡ length l.inner = h.number in
      command-holds k w HoldsBefore holds writes (command_at number) x.command known s (looped_checks w (Some l) number writes x known later) same (subst (λ (u : State). are_met x.command u ≡ true) (sym same) h.met) listed.0
      (one-holds k w HoldsBefore holds writes (command_at number) (covers l.invariant (left_by w x.command known)) (list_checks w number 1 writes (entry_of w x l.invariant) x.list l.inner turned_checks)
      (subst (λ (u : State). covers l.invariant (left_by w x.command u) ≡ true) (sym same) (settled-covers k w x (left_by w x.command s) l.invariant h.settled))
      (list-fails number 1 inner turned_checks why x.list (entry_of w x l.invariant) l.inner h.states here is (omega arith) listed.1
      (λ n u more. turn-not-asked once (inner_at number n) l.invariant u later (not-before-inner number n (Some inner) place here is (λ m e. let same : inner ≡ m = cc in omega arith)) rest)))

  notes-fail : (inner : Option ℕ) (number : ℕ) (why : Fault) (s : State) (xs : List Step) (ns : List Note) → NotesFail w inner why xs s ns → place.command + 1 ≡ number + length ns → place.inner ≡ inner →
      list_all (is_listed writes) (paths_from xs ns) ≡ true → All HoldsBefore (checks_from w writes (λ number left. []) number s xs ns)
  notes-fail inner number why s [] ns h size is p = absurd h
  notes-fail inner number why s (x ∷ xs) [] h size is p = absurd h
  notes-fail inner number why s (x ∷ xs) (n ∷ []) h size is p =
      let listed = append-all (is_listed writes) (written_paths x.command.verb n.state ++ looped_paths x.list n.looped)
      (paths_from xs []) p in
      need-fails inner number why x s n.looped n.state (checks_from w writes (λ number left. []) (number + 1) (left_after w n.looped x n.state) xs []) h.1 h.0 (omega arith) is listed.0
      (none-left w HoldsBefore writes (number + 1) (left_after w n.looped x n.state) xs)
  notes-fail inner number why s (x ∷ xs) (n ∷ m ∷ ns) h size is p =
      let listed = append-all (is_listed writes) (written_paths x.command.verb n.state ++ looped_paths x.list n.looped)
      (paths_from xs (m ∷ ns)) p in
      let same : s ≡ n.state = sym h.0.state in
      note-holds k w HoldsBefore holds writes number x s n (checks_from w writes (λ number left. []) (number + 1) (left_after w n.looped x n.state) xs (m ∷ ns)) h.0 listed.0
      (notes-fail inner (number + 1) why (left_after w n.looped x n.state) xs (m ∷ ns) (subst (λ (u : State). NotesFail w inner why xs (left_after w n.looped x u) (m ∷ ns)) same h.1) (omega arith) is listed.1)

pub checked-before : Laws → (script : Script) (start : Start) (place : Place) (why : Fault) (notes : List Note) → IsFailure script start place why notes → ChecksHoldBefore place script start notes
checked-before k script start place why notes (inl fails) writes listed =
    let number : place.command ≡ length notes = fails.number in
    notes-fail k (sight_over script start) place writes place.inner 1 why (begun script start) (counted script.steps) notes fails.fails (omega arith) refl (listed-each writes (paths_from (counted script.steps) notes) listed)
checked-before k script start place why notes (inr fails) writes listed =
    notes-hold k (sight_over script start) (HoldsBefore k (sight_over script start) place writes) (holds k (sight_over script start) place writes) writes (λ number left. []) 1 (begun script start) (counted script.steps) notes fails.noted
    (listed-each writes (paths_from (counted script.steps) notes) listed) (All-nil (HoldsBefore k (sight_over script start) place writes))
