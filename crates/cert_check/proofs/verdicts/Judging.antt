-- The verdict, one command further.
use Rattle.std.proofs.Common.{◌≡◌, ◌<◌, ℕ, suc, ◌+◌, Bool, true, false, not, ◌&&◌, ◌||◌, List, [], ◌∷◌, length, map, get_or, drop, Option, None, Some, MatchOption, is_none, Result, Ok, Err, IfOk, cond, arith, IsTrue, refl, ◌∙◌, sym, ap, subst, add-one}
use Rattle.std.proofs.lemmas.Bool.{and_parts}
use Rattle.std.proofs.lemmas.List.{drop-map, length-map, drop_all}
use Rattle.ed_syntax.specs.declared.command.Command as public_command
use Rattle.ed_syntax.specs.Commands.{Command, Step, Script}
use Rattle.ed_syntax.specs.PublicTypes.{command_value, step_value, steps_value}
use Rattle.ed_rules.specs.declared.state.State.{State}
use Rattle.cert_check.specs.checker.Covering.{covers}
use Rattle.cert_check.specs.checker.Beginning.{chains_of, has_letters, start_of}
use Rattle.cert_check.specs.declared.certificate.Note as public
use Rattle.cert_check.specs.declared.checker.verdict.Place.{Place}
use Rattle.cert_check.specs.declared.checker.verdict.Verdict.{Verdict}
use Rattle.cert_check.specs.declared.checker.verdict.Verdict.TheVariants.{Accepted, Refused}
use Rattle.cert_check.specs.Certificates.{Note, note_value, Certificate}
use Rattle.cert_check.specs.declared.sight.Sight.{Sight}
use Rattle.cert_check.specs.checker.Valid.{seen_by, told, Check, at_place, command_at, inner_at, at, verdict_of, counted, has_quit, are_met, left_by, are_listed, knows_least, knows_most, end_checks, command_checks, list_checks, runs_once, entry_of, left_by_inner, after_turns, turn_checks, loop_checks, left_after, checks_from, fits, are_shaped, judged}
use Rattle.ed_rules.specs.Globals.{loop_end}
use Rattle.cert_check.specs.Certificates.{Looped}
use Rattle.cert_check.specs.checker.Passing.{verdict_at, passed, ends_well, ListGoesTo, after_turn, LoopGoesTo, StepGoesTo, GoesTo, verdict_after}
use Rattle.cert_check.specs.checker.Sound.{CannotFail}
use Rattle.ed_syntax.specs.meaning.Verbs.{is_step}
use Rattle.std.specs.List.{list_all}
use Rattle.cert_check.proofs.verdicts.Counting.{counted-next, at-place}

-- one check and those after it, which stand at one number
one-check : (b : Bool) (number : ℕ) (later : Verdict) (rest : Bool) → later ≡ verdict_at number rest →
    (elim b as (λ _. Verdict) [ true ↦ later | false ↦ Refused (record { command = number; inner = None }) ]) ≡ verdict_at number
    (b && rest)
one-check true number later rest h = h
one-check false number later rest h = refl

last-check : (b : Bool) (number : ℕ) → verdict_of (at number b ∷ []) ≡ verdict_at number b
last-check true number = refl
last-check false number = refl

-- the checks of the end all stand at one number
pub end-verdict : (quit : Bool) (fault : Option ℕ) (c : Certificate) (number : ℕ) (coming : State) →
    verdict_of (end_checks quit fault c number coming) ≡ verdict_at number (ends_well quit fault c coming)
end-verdict quit fault c number coming =
    one-check (quit || is_none fault) number _ _ (
    one-check (covers c.last coming) number _ _ (
    one-check (quit || not c.last.changed.yes) number _ _ (
    one-check (knows_least c.last.zone c.low) number _ _ (
    last-check (knows_most c.last.zone c.high) number))))

-- a check that fails is the verdict
pub fails-at : (b : Bool) (p : Place) (later : List Check) → b ≡ false → verdict_of (at_place p b ∷ later) ≡ Refused p
fails-at true p later e = absurd cc
fails-at false p later e = refl

-- a check that holds is passed
pub holds-at : (b : Bool) (p : Place) (later : List Check) → b ≡ true → verdict_of (at_place p b ∷ later) ≡ verdict_of later
holds-at true p later e = refl
holds-at false p later e = absurd cc

-- ONE COMMAND

-- three checks at one place
abbrev three : (p : Place) (a b l : Bool) (later : Verdict) → Verdict
three p a b l later =
    elim a as (λ _. Verdict) [
      | true ↦ elim b as (λ _. Verdict)
          [ true ↦ elim l as (λ _. Verdict) [ true ↦ later | false ↦ Refused p ] | false ↦ Refused p ]
      | false ↦ Refused p
    ]

three-hold : (a b l : Bool) (p : Place) (later : Verdict) → a && (b && l) ≡ true → three p a b l later ≡ later
three-hold true true true p later e = refl
three-hold true true false p later e = absurd cc
three-hold true false l p later e = absurd cc
three-hold false b l p later e = absurd cc

three-fail : (a b l : Bool) (p : Place) (later : Verdict) → a && (b && l) ≡ false → three p a b l later ≡ Refused p
three-fail true true true p later e = absurd cc
three-fail true true false p later e = refl
three-fail true false l p later e = refl
three-fail false b l p later e = refl

some-if : (a b l : Bool) (u t : State) → cond a (cond l (cond b (Some u) None) None) None ≡ Some t →
    (a && (b && l) ≡ true) × (u ≡ t)
some-if true true true u t e = (refl, cc)
some-if true false true u t e = absurd cc
some-if true b false u t e = absurd cc
some-if false b l u t e = absurd cc

none-if : (a b l : Bool) (u : State) → cond a (cond l (cond b (Some u) None) None) None ≡ None → a && (b && l) ≡ false
none-if true true true u e = absurd cc
none-if true true false u e = refl
none-if true false l u e = refl
none-if false b l u e = refl

-- the check of what a list leaves fails, or is passed

uncovered-fails : (b : Bool) (p : Place) (invariant : State) (later : List Check) → cond b (Some invariant) None ≡ None →
    verdict_of (at_place p b ∷ later) ≡ Refused p
uncovered-fails true p invariant later e = absurd cc
uncovered-fails false p invariant later e = refl

covered-passes : (b : Bool) (p : Place) (invariant u : State) (later : List Check) → cond b (Some invariant) None ≡ Some u →
    (verdict_of (at_place p b ∷ later) ≡ verdict_of later) × (invariant ≡ u)
covered-passes true p invariant u later e = (refl, cc)
covered-passes false p invariant u later e = absurd cc

turn-off : (once : Bool) (p : Place) (invariant t : State) (later : List Check) → after_turn once invariant t ≡ None →
    verdict_of (turn_checks once p invariant t later) ≡ Refused p
turn-off true p invariant t later e = absurd cc
turn-off false p invariant t later e = uncovered-fails (covers invariant t) p invariant later e

turn-on : (once : Bool) (p : Place) (invariant t u : State) (later : List Check) → after_turn once invariant t ≡ Some u →
    (verdict_of (turn_checks once p invariant t later) ≡ verdict_of later) × (cond once t invariant ≡ u)
turn-on true p invariant t u later e = (refl, cc)
turn-on false p invariant t u later e = covered-passes (covers invariant t) p invariant u later e

module _ (w : Sight) (number : ℕ) (writes : List (List ℕ)) (x : Step) (l : Looped) (known start t : State) (first : covers l.invariant start ≡ true)
    (goes : ListGoesTo w number writes x.list l.inner (entry_of w x l.invariant) None t) where
  -- the last place of a list
  abbrev past_list : Place
  past_list = inner_at number (length x.list + 1)

  turned-is : (later : List Check) →
      verdict_of (loop_checks w number writes x l start later) ≡ verdict_of (turn_checks (runs_once w x l.invariant) past_list l.invariant t later)
  turned-is later =
      let turned : ℕ → State → List Check = λ inner s. turn_checks (runs_once w x l.invariant) (inner_at number inner) l.invariant s later in
      holds-at (covers l.invariant start) (command_at number) (list_checks w number 1 writes (entry_of w x l.invariant) x.list l.inner turned) first
      ∙ goes.1 turned

  -- what the list of a global command leaves isn't covered by its invariant
  pub loop-off : (u : State) → after_turn (runs_once w x l.invariant) l.invariant t ≡ None → LoopGoesTo w number writes x l known start (Some past_list) u
  loop-off u again = λ later. turned-is later ∙ turn-off (runs_once w x l.invariant) past_list l.invariant t later again

  -- all checks of what is known of a list hold
  pub loop-on : (u end : State) → after_turn (runs_once w x l.invariant) l.invariant t ≡ Some u → end ≡ told w (loop_end x known u) →
      LoopGoesTo w number writes x l known start None end
  loop-on u end again is =
      let once : Bool = runs_once w x l.invariant in
      let after : u ≡ after_turns w x l =
      sym (turn-on once past_list l.invariant t u [] again).1 ∙ ap (λ (s : State). cond once s l.invariant) goes.0 in
      (is ∙ ap (λ (s : State). told w (loop_end x known s)) after, λ later. turned-is later ∙ (turn-on once past_list l.invariant t u later again).0)

-- where all checks of a command hold, those after it are left
pub command-on : (w : Sight) (p : Place) (writes : List (List ℕ)) (c : Command) (known coming t : State) →
    passed w writes c known coming ≡ Some t →
    ((later : List Check) → verdict_of (command_checks p writes c known coming later) ≡ verdict_of later) × (left_by w c known ≡ t)
command-on w p writes c known coming t e =
    let all = some-if (covers known coming) (are_met c known) (are_listed writes c known) (left_by w c known) t e in
    (λ later. three-hold (covers known coming) (are_met c known) (are_listed writes c known) p (verdict_of later) all.0, all.1)

pub command-off : (w : Sight) (p : Place) (writes : List (List ℕ)) (c : Command) (known coming : State) (later : List Check) →
    passed w writes c known coming ≡ None → verdict_of (command_checks p writes c known coming later) ≡ Refused p
command-off w p writes c known coming later e =
    three-fail (covers known coming) (are_met c known) (are_listed writes c known) p (verdict_of later)
    (none-if (covers known coming) (are_met c known) (are_listed writes c known) (left_by w c known) e)

-- A LIST

-- what a list in memory stands for, from a place on
mapped-here : {A B : Type 0} (f : A → B) (xs : List A) (index : ℕ) (x : A) → index < length xs → x ≡ get_or xs index x →
    drop index (map f xs) ≡ f x ∷ drop (index + 1) (map f xs)
mapped-here {A = A} {B = B} f xs index x h is =
    drop-map f index xs
    ∙ ap (λ (ys : List A). map f ys) (at-place xs index x h is)
    ∙ ap (λ (ys : List B). f x ∷ ys) (sym (drop-map f (index + 1) xs))

-- the commands of a list and what is known before them, from a place on
abbrev pub list_from : Sight → (number : ℕ) → (writes : List (List ℕ)) → List public_command.Command → List State →
    (turned : ℕ → State → List Check) → (index : ℕ) → State → Verdict
list_from w number writes list states turned index coming =
    verdict_of (list_checks w number (index + 1) writes coming (drop index (map command_value list)) (drop index states) turned)

module _ (w : Sight) (number : ℕ) (writes : List (List ℕ)) (list : List public_command.Command) (states : List State)
    (turned : ℕ → State → List Check) where
  list-here : (index : ℕ) (d : public_command.Command) (known coming : State) → index < length states →
      length states ≡ length list → d ≡ get_or list index d → known ≡ get_or states index known →
      list_from w number writes list states turned index coming
      ≡ verdict_of (command_checks (inner_at number (index + 1)) writes (command_value d) known coming
      (list_checks w number (index + 1 + 1) writes (left_by w (command_value d) known) (drop (index + 1) (map command_value list))
      (drop (index + 1) states) turned))
  list-here index d known coming h size is_d is_known =
      let commands : drop index (map command_value list) ≡ command_value d ∷ drop (index + 1) (map command_value list) =
      mapped-here command_value list index d (omega arith) is_d in
      let knowns : drop index states ≡ known ∷ drop (index + 1) states = at-place states index known h is_known in
      ap (λ (cs : List Command). verdict_of (list_checks w number (index + 1) writes coming cs (drop index states) turned)) commands
      ∙ ap (λ (ss : List State). verdict_of
      (list_checks w number (index + 1) writes coming (command_value d ∷ drop (index + 1) (map command_value list)) ss turned)) knowns

  pub list-on : (index : ℕ) (d : public_command.Command) (known coming t : State) → index < length states →
      length states ≡ length list → d ≡ get_or list index d → known ≡ get_or states index known →
      passed w writes (command_value d) known coming ≡ Some t →
      list_from w number writes list states turned index coming ≡ list_from w number writes list states turned (index + 1) t
  list-on index d known coming t h size is_d is_known is =
      let on = command-on w (inner_at number (index + 1)) writes (command_value d) known coming t is in
      list-here index d known coming h size is_d is_known
      ∙ on.0 (list_checks w number (index + 1 + 1) writes (left_by w (command_value d) known) (drop (index + 1) (map command_value list))
      (drop (index + 1) states) turned)
      ∙ ap (λ (u : State). verdict_of
      (list_checks w number (index + 1 + 1) writes u (drop (index + 1) (map command_value list)) (drop (index + 1) states) turned)) on.1

  pub list-off : (index : ℕ) (d : public_command.Command) (known coming : State) → index < length states →
      length states ≡ length list → d ≡ get_or list index d → known ≡ get_or states index known →
      passed w writes (command_value d) known coming ≡ None →
      list_from w number writes list states turned index coming ≡ Refused (inner_at number (index + 1))
  list-off index d known coming h size is_d is_known is =
      list-here index d known coming h size is_d is_known
      ∙ command-off w (inner_at number (index + 1)) writes (command_value d) known coming
      (list_checks w number (index + 1 + 1) writes (left_by w (command_value d) known) (drop (index + 1) (map command_value list))
      (drop (index + 1) states) turned) is

  pub list-over : (index : ℕ) (coming : State) → index ≡ length states → length states ≡ length list →
      list_from w number writes list states turned index coming ≡ verdict_of (turned (length (map command_value list) + 1) coming)
  list-over index coming at_end size =
      let counts : length (map command_value list) ≡ length list = length-map list command_value in
      let last : index ≡ length (map command_value list) = at_end ∙ size ∙ sym counts in
      let none : drop index (map command_value list) ≡ [] = drop_all index (map command_value list) (omega arith) in
      ap (λ (cs : List Command). verdict_of (list_checks w number (index + 1) writes coming cs (drop index states) turned)) none
      ∙ ap (λ n. verdict_of (turned (n + 1) coming)) last

-- what they leave, from a place on
abbrev pub left_from : Sight → List public_command.Command → List State → (index : ℕ) → State → State
left_from w list states index coming = left_by_inner w (drop index (map command_value list)) (drop index states) coming

module _ (w : Sight) (writes : List (List ℕ)) (list : List public_command.Command) (states : List State) where
  pub left-on : (index : ℕ) (d : public_command.Command) (known coming t : State) → index < length states →
      length states ≡ length list → d ≡ get_or list index d → known ≡ get_or states index known →
      passed w writes (command_value d) known coming ≡ Some t → left_from w list states index coming ≡ left_from w list states (index + 1) t
  left-on index d known coming t h size is_d is_known is =
      let on = command-on w (command_at 0) writes (command_value d) known coming t is in
      let more : List Command = drop (index + 1) (map command_value list) in
      ap (λ (cs : List Command). left_by_inner w cs (drop index states) coming) (mapped-here command_value list index d (omega arith) is_d)
      ∙ ap (λ (ss : List State). left_by_inner w (command_value d ∷ more) ss coming) (at-place states index known h is_known)
      ∙ ap (λ (u : State). left_by_inner w more (drop (index + 1) states) u) on.1

  pub left-over : (index : ℕ) (coming : State) → index ≡ length states → length states ≡ length list → left_from w list states index coming ≡ coming
  left-over index coming at_end size =
      let counts : length (map command_value list) ≡ length list = length-map list command_value in
      ap (λ (cs : List Command). left_by_inner w cs (drop index states) coming) (drop_all index (map command_value list) (omega arith))

-- THE STEPS

-- the commands and notes from a place on
abbrev pub verdict_from : Sight → (writes : List (List ℕ)) → (ℕ → State → List Check) → List public_command.Command →
    List public.Note → (index : ℕ) → State → Verdict
verdict_from w writes end commands notes index s =
    verdict_of (checks_from w writes end (index + 1) s (drop index (counted (steps_value commands))) (drop index (map note_value notes)))

-- the command and the note at a place, and those after it
steps-here : (commands : List public_command.Command) (index : ℕ) (d : public_command.Command) →
    index < length (counted (steps_value commands)) → d ≡ get_or commands index d →
    drop index (counted (steps_value commands)) ≡ step_value d ∷ drop (index + 1) (counted (steps_value commands))
steps-here commands index d h is_d =
    let xs : List Step = counted (steps_value commands) in
    counted-next commands index d h ∙ ap (λ (e : public_command.Command). step_value e ∷ drop (suc index) xs) (sym is_d)
    ∙ ap (λ k. step_value d ∷ drop k xs) (sym (add-one index))

module _ (w : Sight) (writes : List (List ℕ)) (end : ℕ → State → List Check) (commands : List public_command.Command)
    (notes : List public.Note) where
  from-here : (index : ℕ) (d : public_command.Command) (n : public.Note) (s : State) → index < length notes →
      length notes ≡ length (counted (steps_value commands)) → d ≡ get_or commands index d → n ≡ get_or notes index n →
      verdict_from w writes end commands notes index s
      ≡ verdict_of (checks_from w writes end (index + 1) s (step_value d ∷ drop (index + 1) (counted (steps_value commands)))
      (note_value n ∷ drop (index + 1) (map note_value notes)))
  from-here index d n s h size is_d is_n =
      let xs : List Step = counted (steps_value commands) in
      ap (λ (ys : List Step). verdict_of (checks_from w writes end (index + 1) s ys (drop index (map note_value notes))))
      (steps-here commands index d (omega arith) is_d)
      ∙ ap (λ (ns : List Note). verdict_of (checks_from w writes end (index + 1) s (step_value d ∷ drop (index + 1) xs) ns))
      (mapped-here note_value notes index n h is_n)

  -- the checks after this step
  abbrev later_checks : ℕ → public_command.Command → public.Note → List Check
  later_checks index d n =
      checks_from w writes end (index + 1 + 1) (left_after w (note_value n).looped (step_value d) n.state)
      (drop (index + 1) (counted (steps_value commands))) (drop (index + 1) (map note_value notes))

  pub go-on : (index : ℕ) (d : public_command.Command) (n : public.Note) (s t : State) → index < length notes →
      length notes ≡ length (counted (steps_value commands)) → d ≡ get_or commands index d → n ≡ get_or notes index n →
      StepGoesTo w (index + 1) writes (step_value d) (note_value n) s None t →
      verdict_from w writes end commands notes index s ≡ verdict_from w writes end commands notes (index + 1) t
  go-on index d n s t h size is_d is_n goes =
      from-here index d n s h size is_d is_n
      ∙ goes.1 (later_checks index d n)
      ∙ ap (λ (u : State). verdict_of
      (checks_from w writes end (index + 1 + 1) u (drop (index + 1) (counted (steps_value commands)))
      (drop (index + 1) (map note_value notes)))) (sym goes.0)

  pub stop-here : (index : ℕ) (d : public_command.Command) (n : public.Note) (s t : State) (place : Place) → index < length notes →
      length notes ≡ length (counted (steps_value commands)) → d ≡ get_or commands index d → n ≡ get_or notes index n →
      StepGoesTo w (index + 1) writes (step_value d) (note_value n) s (Some place) t →
      verdict_from w writes end commands notes index s ≡ Refused place
  stop-here index d n s t place h size is_d is_n goes = from-here index d n s h size is_d is_n ∙ goes (later_checks index d n)

  -- after the last note come the checks of the end
  pub gone-through : (index : ℕ) (s : State) → index ≡ length notes → length notes ≡ length (counted (steps_value commands)) →
      verdict_from w writes end commands notes index s ≡ verdict_of (end (length (map note_value notes) + 1) s)
  gone-through index s at_end size =
      let xs : List Step = counted (steps_value commands) in
      let counts : length (map note_value notes) ≡ length notes = length-map notes note_value in
      let steps : drop index xs ≡ [] = drop_all index xs (omega arith) in
      ap (λ (ys : List Step). verdict_of (checks_from w writes end (index + 1) s ys (drop index (map note_value notes)))) steps
      ∙ ap (λ n. verdict_of (end (n + 1) s)) (at_end ∙ sym counts)

-- THE SHAPE

-- notes in the right shape are as many as the commands, and each fits its command
pub shaped-length : (xs : List Step) (notes : List Note) → are_shaped xs notes ≡ true → length notes ≡ length xs
shaped-length [] [] h = refl
shaped-length [] (n ∷ notes) h = absurd cc
shaped-length (x ∷ xs) [] h = absurd cc
shaped-length (x ∷ xs) (n ∷ notes) h = ap suc (shaped-length xs notes (and_parts (fits x n) (are_shaped xs notes) h).1)

unshaped-length : (xs : List Step) (notes : List Note) → (length notes ≡ length xs → ⊥) → are_shaped xs notes ≡ false
unshaped-length [] [] h = absurd (h refl)
unshaped-length [] (n ∷ notes) h = refl
unshaped-length (x ∷ xs) [] h = refl
unshaped-length (x ∷ xs) (n ∷ notes) h =
    rw (unshaped-length xs notes (λ e. h (ap suc e)))
    (elim (fits x n) as (λ b. b && false ≡ false) [ true ↦ refl | false ↦ refl ])

-- the shape of those from a place on
abbrev pub shape_from : List public_command.Command → List public.Note → (index : ℕ) → Bool
shape_from commands notes index = are_shaped (drop index (counted (steps_value commands))) (drop index (map note_value notes))

module _ (commands : List public_command.Command) (notes : List public.Note) where
  shape-here : (index : ℕ) (d : public_command.Command) (n : public.Note) → index < length notes →
      length notes ≡ length (counted (steps_value commands)) → d ≡ get_or commands index d → n ≡ get_or notes index n →
      shape_from commands notes index ≡ fits (step_value d) (note_value n) && shape_from commands notes (index + 1)
  shape-here index d n h size is_d is_n =
      let xs : List Step = counted (steps_value commands) in
      ap (λ (ys : List Step). are_shaped ys (drop index (map note_value notes))) (steps-here commands index d (omega arith) is_d)
      ∙ ap (λ (ns : List Note). are_shaped (step_value d ∷ drop (index + 1) xs) ns) (mapped-here note_value notes index n h is_n)

  pub shape-on : (index : ℕ) (d : public_command.Command) (n : public.Note) → index < length notes →
      length notes ≡ length (counted (steps_value commands)) → d ≡ get_or commands index d → n ≡ get_or notes index n →
      fits (step_value d) (note_value n) ≡ true → shape_from commands notes index ≡ shape_from commands notes (index + 1)
  shape-on index d n h size is_d is_n fit =
      shape-here index d n h size is_d is_n ∙ ap (λ b. b && shape_from commands notes (index + 1)) fit

  pub shape-off : (index : ℕ) (d : public_command.Command) (n : public.Note) → index < length notes →
      length notes ≡ length (counted (steps_value commands)) → d ≡ get_or commands index d → n ≡ get_or notes index n →
      fits (step_value d) (note_value n) ≡ false → shape_from commands notes index ≡ false
  shape-off index d n h size is_d is_n unfit =
      shape-here index d n h size is_d is_n ∙ ap (λ b. b && shape_from commands notes (index + 1)) unfit

  pub shape-over : (index : ℕ) → index ≡ length notes → length notes ≡ length (counted (steps_value commands)) →
      shape_from commands notes index ≡ true
  shape-over index at_end size =
      let xs : List Step = counted (steps_value commands) in
      let counts : length (map note_value notes) ≡ length notes = length-map notes note_value in
      ap (λ (ys : List Step). are_shaped ys (drop index (map note_value notes))) (drop_all index xs (omega arith))
      ∙ ap (λ (ns : List Note). are_shaped [] ns) (drop_all index (map note_value notes) (omega arith))

  -- another number of notes
  pub shape-size : (number : ℕ) → number ≡ length (counted (steps_value commands)) → (length notes ≡ number → ⊥) →
      are_shaped (counted (steps_value commands)) (map note_value notes) ≡ false
  shape-size number is differ =
      unshaped-length (counted (steps_value commands)) (map note_value notes)
      (λ e. differ (sym (length-map notes note_value) ∙ e ∙ sym is))

  pub noted-length : are_shaped (counted (steps_value commands)) (map note_value notes) ≡ true →
      length notes ≡ length (counted (steps_value commands))
  noted-length all = sym (length-map notes note_value) ∙ shaped-length (counted (steps_value commands)) (map note_value notes) all

  -- of each note in the right shape the command fits
  pub shape-fits : (index : ℕ) (d : public_command.Command) (n : public.Note) → index < length notes →
      d ≡ get_or commands index d → n ≡ get_or notes index n →
      are_shaped (counted (steps_value commands)) (map note_value notes) ≡ true → shape_from commands notes index ≡ true →
      fits (step_value d) (note_value n) ≡ true
  shape-fits index d n h is_d is_n all from =
      (and_parts (fits (step_value d) (note_value n)) (shape_from commands notes (index + 1))
      (sym (shape-here index d n h (noted-length all) is_d is_n) ∙ from)).0

-- what is accepted can't fail, by the law
pub sound-by : {E : Type 0} (r : Result Verdict E) (script : Script) (c : Certificate) →
    ((s : Script) (d : Certificate) → IsTrue (list_all is_step s.steps) → judged s d ≡ Accepted → CannotFail s d) →
    IsTrue (list_all is_step script.steps) → IfOk r (λ answer. answer ≡ judged script c) →
    IfOk r (λ answer. answer ≡ Accepted → CannotFail script c)
sound-by (Ok answer) script c law stands is = λ e. law script c stands (sym is ∙ e)
sound-by (Err f) script c law stands is = tt

-- the verdict by what the checker finds: notes in another shape, a landmark without a letter, a command's check that fails, or the end
-- the checks after those at 0
abbrev checks_after_start : Script → Certificate → List Check
checks_after_start script c =
    let w = seen_by script c in
    checks_from w c.writes (end_checks (has_quit script.steps) script.fault c) 1 (told w (start_of script c)) (counted script.steps) c.notes

abbrev checks_of_start : Script → Certificate → List Check
checks_of_start script c = at 0 (has_letters script (chains_of c)) ∷ checks_after_start script c

judged-shape : (script : Script) (c : Certificate) → are_shaped (counted script.steps) c.notes ≡ false →
    judged script c ≡ verdict_at 0 false
judged-shape script c e = fails-at (are_shaped (counted script.steps) c.notes) (command_at 0) (checks_of_start script c) e

judged-letters : (script : Script) (c : Certificate) → are_shaped (counted script.steps) c.notes ≡ true →
    has_letters script (chains_of c) ≡ false → judged script c ≡ verdict_at 0 false
judged-letters script c shaped e =
    holds-at (are_shaped (counted script.steps) c.notes) (command_at 0) (checks_of_start script c) shaped
    ∙ fails-at (has_letters script (chains_of c)) (command_at 0) (checks_after_start script c) e

-- where both checks at 0 hold, it is that of the checks after them
module _ (script : Script) (c : Certificate) (shaped : are_shaped (counted script.steps) c.notes ≡ true)
    (lettered : has_letters script (chains_of c) ≡ true) where
  abbrev w : Sight
  w = seen_by script c

  abbrev end : ℕ → State → List Check
  end = end_checks (has_quit script.steps) script.fault c

  judged-later : judged script c ≡ verdict_of (checks_after_start script c)
  judged-later =
      holds-at (are_shaped (counted script.steps) c.notes) (command_at 0) (checks_of_start script c) shaped
      ∙ holds-at (has_letters script (chains_of c)) (command_at 0) (checks_after_start script c) lettered

  judged-passage : (failed : Option Place) (t : State) →
      GoesTo w c.writes (counted script.steps) c.notes (told w (start_of script c)) failed t →
      judged script c ≡ verdict_after failed t (has_quit script.steps) script.fault c
  judged-passage None t goes =
      judged-later ∙ goes end ∙ end-verdict (has_quit script.steps) script.fault c (length c.notes + 1) t
  judged-passage (Some place) t goes = judged-later ∙ goes end

-- what the checker finds of the start: there is none where a landmark has no letter
abbrev StartsSo : Script → Certificate → Option State → Type 0
StartsSo script c o =
    MatchOption o (has_letters script (chains_of c) ≡ false) (λ s. (has_letters script (chains_of c) ≡ true) × (s ≡ start_of script c))

pub starts-none : (script : Script) (c : Certificate) (o : Option State) → o ≡ None → StartsSo script c o →
    has_letters script (chains_of c) ≡ false
starts-none script c None is h = h
starts-none script c (Some s) is h = absurd cc

pub starts-some : (script : Script) (c : Certificate) (o : Option State) (s : State) → o ≡ Some s → StartsSo script c o →
    (has_letters script (chains_of c) ≡ true) × (s ≡ start_of script c)
starts-some script c o s is h = subst (StartsSo script c) is h

pub judged-by : (script : Script) (c : Certificate) (w : Sight) (writes : List (List ℕ)) (xs : List Step) (notes : List Note) (s : State)
    (quit : Bool) (failed : Option Place) (t : State) → w ≡ seen_by script c → writes ≡ c.writes → xs ≡ counted script.steps →
    notes ≡ c.notes → s ≡ told w (start_of script c) → quit ≡ has_quit script.steps → are_shaped xs notes ≡ true →
    has_letters script (chains_of c) ≡ true → GoesTo w writes xs notes s failed t →
    verdict_after failed t quit script.fault c ≡ judged script c
judged-by script c w writes xs notes s quit failed t same_sight same_writes same_steps same_notes same_start same_quit shaped lettered
    goes =
    let shape : are_shaped (counted script.steps) c.notes ≡ true =
    subst (λ (ns : List Note). are_shaped (counted script.steps) ns ≡ true) same_notes
    (subst (λ (ys : List Step). are_shaped ys notes ≡ true) same_steps shaped) in
    let by_writes = subst (λ (ws : List (List ℕ)). GoesTo w ws xs notes s failed t) same_writes goes in
    let by_steps = subst (λ (ys : List Step). GoesTo w c.writes ys notes s failed t) same_steps by_writes in
    let by_notes = subst (λ (ns : List Note). GoesTo w c.writes (counted script.steps) ns s failed t) same_notes by_steps in
    let by_start = subst (λ (u : State). GoesTo w c.writes (counted script.steps) c.notes u failed t) same_start by_notes in
    ap (λ (q : Bool). verdict_after failed t q script.fault c) same_quit
    ∙ sym (judged-passage script c shape lettered failed t
    (subst (λ (v : Sight). GoesTo v c.writes (counted script.steps) c.notes (told v (start_of script c)) failed t) same_sight
    by_start))

pub judged-by_shape : (script : Script) (c : Certificate) (xs : List Step) (notes : List Note) → xs ≡ counted script.steps →
    notes ≡ c.notes → are_shaped xs notes ≡ false → judged script c ≡ verdict_at 0 false
judged-by_shape script c xs notes same_steps same_notes e =
    judged-shape script c
    (subst (λ (ns : List Note). are_shaped (counted script.steps) ns ≡ false) same_notes
    (subst (λ (ys : List Step). are_shaped ys notes ≡ false) same_steps e))

pub judged-by_letters : (script : Script) (c : Certificate) (xs : List Step) (notes : List Note) → xs ≡ counted script.steps →
    notes ≡ c.notes → are_shaped xs notes ≡ true → has_letters script (chains_of c) ≡ false → judged script c ≡ verdict_at 0 false
judged-by_letters script c xs notes same_steps same_notes shaped e =
    judged-letters script c
    (subst (λ (ns : List Note). are_shaped (counted script.steps) ns ≡ true) same_notes
    (subst (λ (ys : List Step). are_shaped ys notes ≡ true) same_steps shaped)) e
