-- Runs without letters that they don't name.
use Rattle.std.proofs.Common.{◌≡◌, ℕ, zero, suc, ◌+◌, true, false, List, [], ◌∷◌, ◌++◌, Option, Some, None, option_map, Result, Ok, Err, refl, ap, ◌∙◌}
use Rattle.std.specs.List.{list_any}
use Rattle.std.proofs.lemmas.Bool.{or_parts}
use Rattle.ed_base.specs.Buffer.{Line, flagged_place}
use Rattle.ed_base.specs.declared.fault.Fault.{Fault}
use Rattle.ed_base.specs.declared.fault.Fault.TheVariants as fault
use Rattle.ed_syntax.specs.declared.request.Answer.{Answer}
use Rattle.ed_syntax.specs.Commands as ed
use Rattle.ed_syntax.specs.Commands.{Verb, Command, Step}
use Rattle.ed_syntax.specs.meaning.States.{State, Kept, Past, Open, kept}
use Rattle.ed_syntax.specs.meaning.Effects.{Effect, Makes, Asks}
use Rattle.ed_syntax.specs.meaning.Globals.{flags, opened, taken_at, next_taken, past_of_global, closed}
use Rattle.ed_syntax.specs.meaning.Applied.{command}
use Rattle.ed_syntax.specs.meaning.Progress.{Present, Progress, Stops, Ends, Writes, Hears, Rest, failing, quitting, count}
use Rattle.ed_syntax.specs.meaning.Runs.{Further, with_state, answered, asking, turned, one, listed, turn, turns, global, step_by, prompted, at_end, steps}
use Rattle.ed_syntax.specs.meaning.Erasure.{command_names, step_names, steps_name, kept_without, past_without, open_without, effect_without, present_without, present_without_all}
use Rattle.ed_syntax.specs.meaning.ErasureLaws.{RunsIgnoreLetters}
use Rattle.ed_syntax.proofs.meaning.CountLemmas.{counted-mapped}
use Rattle.ed_syntax.proofs.meaning.ErasureLemmas.{mapped, bare, chosen-mapped, length-without, flagged_at-without, flagged_place-without}
use Rattle.ed_syntax.proofs.meaning.ErasedPlaces.{cut}
use Rattle.ed_syntax.proofs.meaning.ErasedEffects.{kept-same, command-same}

module _ (x : ℕ) where
  -- a run's present without the letter
  abbrev bare_run : Present → Present
  bare_run m = present_without x m

  -- a run that goes on from a present without the letter as another does from that with it
  abbrev GoesAlike : (bare_go go : Further) → Type 0
  GoesAlike bare_go go = (m : Present) (answers : List Answer) → bare_go (bare_run m) answers ≡ go m answers

  -- ONE COMMAND

  answered-alike : (m : Present) (counted : List ℕ) (r : Result Effect Fault) (bare_go go : Further) → GoesAlike bare_go go →
      (answers : List Answer) → answered (bare_run m) counted (mapped (effect_without x) r) bare_go answers ≡ answered m counted r go answers
  answered-alike m counted (Err f) bare_go go alike answers = refl
  answered-alike m counted (Ok (Makes o)) bare_go go alike answers =
      ap (λ (p : Progress). Writes m.help (o.output ++ counted) p) (alike (with_state o.state m) answers)
  answered-alike m counted (Ok (Asks r)) bare_go go alike answers = refl

  asking-alike : (m : Present) (r : Result Effect Fault) (bare_again again : Answer → Result Effect Fault) (bare_go go : Further) →
      ((a : Answer) → bare_again a ≡ mapped (effect_without x) (again a)) → GoesAlike bare_go go →
      (answers : List Answer) → asking (bare_run m) (mapped (effect_without x) r) bare_again bare_go answers ≡ asking m r again go answers
  asking-alike m (Err f) bare_again again bare_go go same alike answers = refl
  asking-alike m (Ok (Makes o)) bare_again again bare_go go same alike answers =
      ap (λ (p : Progress). Writes m.help o.output p) (alike (with_state o.state m) answers)
  asking-alike m (Ok (Asks r)) bare_again again bare_go go same alike [] = refl
  asking-alike m (Ok (Asks r)) bare_again again bare_go go same alike (a ∷ answers) =
      ap (λ (e : Result Effect Fault). Hears m.help r (answered (bare_run m) (count m.silent r a) e bare_go answers)) (same a)
      ∙ ap (λ (p : Progress). Hears m.help r p) (answered-alike m (count m.silent r a) (again a) bare_go go alike answers)

  turned-alike : (verb : Verb) (m : Present) → turned verb (bare_run m) ≡ bare_run (turned verb m)
  turned-alike ed.HelpMode m = refl
  turned-alike ed.PromptMode m = refl
  turned-alike _ m = refl

  one-alike : (c : Command) (m : Present) (bare_go go : Further) → command_names x c ≡ false → GoesAlike bare_go go →
      (answers : List Answer) → one c (bare_run m) bare_go answers ≡ one c m go answers
  one-alike c m bare_go go free alike answers =
      ap (λ (r : Result Effect Fault). asking (bare_run m) r (λ a. command (cut x m.state) c (Some a)) (λ t. bare_go (turned c.verb t)) answers)
      (command-same x m.state c None free)
      ∙ asking-alike m (command m.state c None) (λ a. command (cut x m.state) c (Some a)) (λ a. command m.state c (Some a))
      (λ t. bare_go (turned c.verb t)) (λ t. go (turned c.verb t))
      (λ a. command-same x m.state c (Some a) free)
      (λ t more. ap (λ (u : Present). bare_go u more) (turned-alike c.verb t) ∙ alike (turned c.verb t) more) answers

  -- LISTS

  listed-alike : (cs : List Command) (m : Present) (bare_go go : Further) → list_any (command_names x) cs ≡ false → GoesAlike bare_go go →
      (answers : List Answer) → listed cs (bare_run m) bare_go answers ≡ listed cs m go answers
  listed-alike [] m bare_go go free alike answers = alike m answers
  listed-alike (c ∷ cs) m bare_go go free alike answers =
      let each = or_parts (command_names x c) (list_any (command_names x) cs) free in
      one-alike c m (λ t. listed cs t bare_go) (λ t. listed cs t go) each.0 (λ t more. listed-alike cs t bare_go go each.1 alike more) answers

  flags-alike : (s : State) → flags (cut x s) ≡ flags s
  flags-alike s = counted-mapped (λ (line : Line). line.flag) (bare x) (λ line. refl) s.lines

  taken-alike : (s : State) (place : Option ℕ) → option_map (taken_at (cut x s)) place ≡ option_map (cut x) (option_map (taken_at s) place)
  taken-alike s None = refl
  taken-alike s (Some place) =
      ap (λ (ls : List Line). Some (record (cut x s) { lines = ls; current = place + 1 })) (flagged_at-without x place false s.lines)

  next-alike : (s : State) → next_taken (cut x s) ≡ option_map (cut x) (next_taken s)
  next-alike s =
      ap (λ (o : Option ℕ). option_map (taken_at (cut x s)) o) (flagged_place-without x s.lines) ∙ taken-alike s (flagged_place s.lines)

  past_of_global-alike : (g : Open) → past_of_global (open_without x g) ≡ past_without x (past_of_global g)
  past_of_global-alike g = chosen-mapped (past_without x) g.altered _ _ _ _ refl refl

  -- the end of what may be open
  abbrev closed_at : State → Option Open → State
  closed_at s None = s
  closed_at s (Some g) = record s { past = past_of_global g; global = None }

  closed_at-alike : (s : State) (g : Option Open) → closed_at (cut x s) (option_map (open_without x) g) ≡ cut x (closed_at s g)
  closed_at-alike s None = refl
  closed_at-alike s (Some g) = ap (λ (p : Past). record (cut x s) { past = p; global = None }) (past_of_global-alike g)

  closed-alike : (s : State) → closed (cut x s) ≡ cut x (closed s)
  closed-alike s = closed_at-alike s s.global

  turn-alike : (o : Option State) (bare_again again : State → Rest) (bare_over over : Rest) (answers : List Answer) →
      ((s : State) → bare_again (cut x s) answers ≡ again s answers) → bare_over answers ≡ over answers →
      turn (option_map (cut x) o) bare_again bare_over answers ≡ turn o again over answers
  turn-alike None bare_again again bare_over over answers more done = done
  turn-alike (Some s) bare_again again bare_over over answers more done = more s

  over-alike : (m : Present) (bare_go go : Further) → GoesAlike bare_go go → (answers : List Answer) →
      bare_go (with_state (closed (cut x m.state)) m) answers ≡ go (with_state (closed m.state) m) answers
  over-alike m bare_go go alike answers =
      ap (λ (s : State). bare_go (with_state s m) answers) (closed-alike m.state) ∙ alike (with_state (closed m.state) m) answers

  turns-alike : (lines : ℕ) (list : List Command) (m : Present) (bare_go go : Further) → list_any (command_names x) list ≡ false → GoesAlike bare_go go →
      (answers : List Answer) → turns lines list (bare_run m) bare_go answers ≡ turns lines list m go answers
  turns-alike zero list m bare_go go free alike answers = over-alike m bare_go go alike answers
  turns-alike (suc lines) list m bare_go go free alike answers =
      let bare_again : State → Rest = λ s. listed list (with_state s m) (λ t. turns lines list t bare_go) in
      let again : State → Rest = λ s. listed list (with_state s m) (λ t. turns lines list t go) in
      let bare_over : Rest = bare_go (with_state (closed (cut x m.state)) m) in
      let over : Rest = go (with_state (closed m.state) m) in
      ap (λ (o : Option State). turn o bare_again bare_over answers) (next-alike m.state)
      ∙ turn-alike (next_taken m.state) bare_again again bare_over over answers
      (λ s. listed-alike list (with_state s m) (λ t. turns lines list t bare_go) (λ t. turns lines list t go) free
      (λ t more. turns-alike lines list t bare_go go free alike more) answers)
      (over-alike m bare_go go alike answers)

  global-alike : (before : Kept) (list : List Command) (m : Present) (bare_go go : Further) → list_any (command_names x) list ≡ false → GoesAlike bare_go go →
      (answers : List Answer) → global (kept_without x before) list (bare_run m) bare_go answers ≡ global before list m go answers
  global-alike before list m bare_go go free alike answers =
      ap (λ n. turns n list (with_state (opened (kept_without x before) (cut x m.state)) m) bare_go answers) (flags-alike m.state)
      ∙ turns-alike (flags m.state) list (with_state (opened before m.state) m) bare_go go free alike answers

  -- STEPS

  quitting-alike : (m : Present) → quitting (bare_run m) ≡ quitting m
  quitting-alike m = ap (λ n. elim m.state.changed as (λ _. Progress) [ true ↦ failing m fault.Unsaved | false ↦ Stops m.help (Ends (Ok (record { lines = n }))) ]) (length-without x m.state.lines)

  step_by-alike : (verb : Verb) (y : Step) (m : Present) (bare_go go : Further) → step_names x y ≡ false → GoesAlike bare_go go →
      (answers : List Answer) → step_by verb y (bare_run m) bare_go answers ≡ step_by verb y m go answers
  step_by-alike ed.Quit y m bare_go go free alike answers = quitting-alike m
  step_by-alike ed.QuitAnyway y m bare_go go free alike answers =
      ap (λ n. Stops m.help (Ends (Ok (record { lines = n })))) (length-without x m.state.lines)
  step_by-alike (ed.Global sense own) y m bare_go go free alike answers =
      let each = or_parts (command_names x y.command) (list_any (command_names x) y.list) free in
      ap (λ (k : Kept). one y.command (bare_run m) (λ t. global k y.list t bare_go) answers) (kept-same x m.state)
      ∙ one-alike y.command m (λ t. global (kept_without x (kept m.state)) y.list t bare_go) (λ t. global (kept m.state) y.list t go) each.0
      (λ t more. global-alike (kept m.state) y.list t bare_go go each.1 alike more) answers
  step_by-alike _ y m bare_go go free alike answers =
      one-alike y.command m bare_go go (or_parts (command_names x y.command) (list_any (command_names x) y.list) free).0 alike answers

  at_end-alike : (bad : Option ℕ) (m : Present) → at_end bad (bare_run m) ≡ at_end bad m
  at_end-alike None m = quitting-alike m
  at_end-alike (Some line) m = refl

  pub steps-alike : (ys : List Step) (bad : Option ℕ) (m : Present) → list_any (step_names x) ys ≡ false →
      (answers : List Answer) → steps ys bad (bare_run m) answers ≡ steps ys bad m answers
  steps-alike [] bad m free answers = ap (λ (p : Progress). prompted m p) (at_end-alike bad m)
  steps-alike (y ∷ ys) bad m free answers =
      let each = or_parts (step_names x y) (list_any (step_names x) ys) free in
      ap (λ (p : Progress). prompted m p)
      (step_by-alike y.command.verb y m (λ t more. steps ys bad t more) (λ t more. steps ys bad t more) each.0
      (λ t more. steps-alike ys bad t each.1 more) answers)

pub runs_ignore_letters : RunsIgnoreLetters
runs_ignore_letters [] xs bad m answers free = refl
runs_ignore_letters (letter ∷ letters) xs bad m answers free =
    let each = or_parts (list_any (step_names letter) xs) (steps_name letters xs) free in
    steps-alike letter xs bad (present_without_all letters m) each.0 answers
    ∙ runs_ignore_letters letters xs bad m answers each.1
