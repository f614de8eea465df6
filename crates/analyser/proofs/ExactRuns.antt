-- The run of an exact script beside its rules.
use Rattle.std.proofs.Common.{◌≡◌, ◌⊎◌, inl, inr, ◌≤◌, ℕ, suc, Bool, true, false, ◌&&◌, ◌||◌, List, [], ◌∷◌, ◌++◌, length, take, Option, None, Some, is_none, Result, Ok, Err, refl, sym, ap, ◌∙◌, subst, arith}
use Rattle.std.specs.List.{All}
use Rattle.std.proofs.lemmas.List.Elements.{All-head, All-tail}
use Rattle.std.proofs.lemmas.Bool.{and_parts}
use Rattle.ed_base.specs.declared.fault.Fault.{Fault}
use Rattle.ed_base.specs.declared.fault.Fault.TheVariants as fault
use Rattle.ed_syntax.specs.declared.options.Ending.{Ending}
use Rattle.ed_syntax.specs.declared.request.Answer.{Answer}
use Rattle.ed_syntax.specs.declared.request.Answer.TheVariants as answer
use Rattle.ed_syntax.specs.declared.request.Request.{Request}
use Rattle.ed_syntax.specs.Commands as ed
use Rattle.ed_syntax.specs.Commands.{Addresses, Without, One, Comma, Semicolon, Form, Verb, Command, Step}
use Rattle.ed_syntax.specs.meaning.States as editor
use Rattle.ed_syntax.specs.meaning.Effects.{Outcome, Effect, Makes, Asks}
use Rattle.ed_syntax.specs.meaning.Applied.{command}
use Rattle.ed_syntax.specs.meaning.Laws.{UnaskedAnswersDoNothing, NothingIsAskedTwice}
use Rattle.ed_syntax.specs.meaning.Progress.{Present, Progress, Stop, Waits, Ends, Writes, stop_of, failing, ending, count}
use Rattle.ed_syntax.specs.meaning.Runs.{Further, reached, answered, asking, turned, one, step_by, prompted, at_end, steps}
use Rattle.ed_syntax.specs.meaning.Values.{◌>>◌}
use Rattle.ed_syntax.specs.meaning.Verbs.{takes, takes_any, may_have, ends_run}
use Rattle.ed_rules.specs.declared.state.Changed.{Changed}
use Rattle.ed_rules.specs.declared.state.State.{State}
use Rattle.ed_syntax.specs.spelling.Readable.{enters_lines, is_readable}
use Rattle.ed_rules.specs.Rules.{step}
use Rattle.ed_rules.specs.Exact.{are_by_number, is_exact_verb, is_exact, are_exact}
use Rattle.ed_rules.specs.LineBounds.{most_lines}
use Rattle.ed_rules.specs.ExactRules.{flag_of, Tells, EndAlike, LeavesTold, LeavesFew, CommandIsExact}
use Rattle.cert_check.specs.declared.certificate.Version.{Version}
use Rattle.cert_check.specs.declared.certificate.Version.TheVariants as version
use Rattle.cert_check.specs.declared.sight.Sight.{Sight}
use Rattle.cert_check.specs.checker.Valid.{told_by, told}
use Rattle.cert_check.proofs.verdicts.Checks.{NeedsAreTheSame}
use Rattle.cert_check.proofs.verdicts.Running.{turned-state}
use Rattle.analyser.specs.Exactness.{quit_anyway}
use Rattle.analyser.proofs.ExactWalks.{ended, walked, goes_on, walked-fails, exact-verb, exact-both}

-- the laws of the crates below
pub record Laws : Type 0 where
  pub command : CommandIsExact
  pub needs : NeedsAreTheSame
  pub unasked : UnaskedAnswersDoNothing
  pub once : NothingIsAskedTwice

-- each write is done
abbrev pub AreDone : List Answer → Type 0
AreDone answers = All (λ (a : Answer). a ≡ answer.Done) answers

-- a prompt doesn't matter
pub prompted-stop : (m : Present) (p : Progress) → stop_of (prompted m p) ≡ stop_of p
prompted-stop m p = elim m.prompting as (λ b. stop_of
    (elim b as (λ _. Progress) [ true ↦ Writes m.help m.prompt p | false ↦ p ]) ≡ stop_of p) [ true ↦ refl | false ↦ refl ]

-- ONE COMMAND

-- it meets a fault, and the run ends
pub record Fails (c : Command) (m : Present) (answers : List Answer) : Type 0 where
  pub fault : Fault
  pub comes : command m.state c (Some answer.Done) ≡ Err fault
  pub stops : (go : Further) → stop_of (one c m go answers) ≡ Ends (Err fault)

-- it is done, and the run goes on
pub record Goes (c : Command) (m : Present) (answers : List Answer) : Type 0 where
  pub outcome : Outcome
  pub later : List Answer
  pub comes : command m.state c (Some answer.Done) ≡ Ok (Makes outcome)
  pub done : AreDone later
  pub enough : length answers ≤ suc (length later)
  pub goes : (go : Further) → stop_of (one c m go answers) ≡ stop_of (go (turned c.verb (reached outcome m)) later)

module _ (k : Laws) (c : Command) (m : Present) where
  unasked : (y : Result Effect Fault) → command m.state c None ≡ y → ((r : Request) → y ≡ Ok (Asks r) → ⊥) →
      command m.state c (Some answer.Done) ≡ y
  unasked y is never = k.unasked m.state c answer.Done (λ r e. never r (sym is ∙ e)) ∙ is

  one-by : (y : Result Effect Fault) → command m.state c None ≡ y → (go : Further) (answers : List Answer) →
      stop_of (one c m go answers) ≡ stop_of (asking m y (λ a. command m.state c (Some a)) (λ t. go (turned c.verb t)) answers)
  one-by y is go answers =
      ap (λ (z : Result Effect Fault). stop_of (asking m z (λ a. command m.state c (Some a)) (λ t. go (turned c.verb t)) answers)) is

  after-asking : (r : Request) (a : Answer) (later : List Answer) → command m.state c None ≡ Ok (Asks r) → a ≡ answer.Done →
      AreDone later → (z : Result Effect Fault) → command m.state c (Some answer.Done) ≡ z →
      Fails c m (a ∷ later) ⊎ Goes c m (a ∷ later)
  after-asking r a later is done all (Err f) now =
      inl (record {
        fault = f;
        comes = now;
        stops = λ go. one-by (Ok (Asks r)) is go (a ∷ later)
            ∙ ap (λ (z : Result Effect Fault). stop_of (answered m (count m.silent r a) z (λ t. go (turned c.verb t)) later))
            (ap (λ (b : Answer). command m.state c (Some b)) done ∙ now);
      })
  after-asking r a later is done all (Ok (Makes o)) now =
      inr (record {
        outcome = o;
        later = later;
        comes = now;
        done = all;
        enough = omega arith;
        goes = λ go. one-by (Ok (Asks r)) is go (a ∷ later)
            ∙ ap (λ (z : Result Effect Fault). stop_of (answered m (count m.silent r a) z (λ t. go (turned c.verb t)) later))
            (ap (λ (b : Answer). command m.state c (Some b)) done ∙ now);
      })
  after-asking r a later is done all (Ok (Asks q)) now = absurd (k.once m.state c answer.Done q now)

  by-effect : (answers : List Answer) → AreDone answers → 1 ≤ length answers → (y : Result Effect Fault) →
      command m.state c None ≡ y → Fails c m answers ⊎ Goes c m answers
  by-effect answers all some (Err f) is =
      inl (record { fault = f; comes = unasked (Err f) is (λ r e. cc); stops = λ go. one-by (Err f) is go answers })
  by-effect answers all some (Ok (Makes o)) is =
      inr (record {
        outcome = o;
        later = answers;
        comes = unasked (Ok (Makes o)) is (λ r e. cc);
        done = all;
        enough = omega arith;
        goes = λ go. one-by (Ok (Makes o)) is go answers;
      })
  by-effect [] all some (Ok (Asks r)) is = absurd (omega arith)
  by-effect (a ∷ later) all some (Ok (Asks r)) is =
      after-asking r a later is (All-head (λ (b : Answer). b ≡ answer.Done) a later all)
      (All-tail (λ (b : Answer). b ≡ answer.Done) a later all) (command m.state c (Some answer.Done)) refl

  pub comes-by : (answers : List Answer) → AreDone answers → 1 ≤ length answers → Fails c m answers ⊎ Goes c m answers
  comes-by answers all some = by-effect answers all some (command m.state c None) refl

-- WHAT IS TOLD of a state tells as much of the editor

tells-told_by : (v : Version) (s : State) (e : editor.State) → Tells s e → Tells (told_by v s) e
tells-told_by version.One s e h =
    record { zone = h.zone; marks = h.marks; names = h.names; changed = h.changed; inside = h.inside; few = h.few }
tells-told_by version.Two s e h =
    record { zone = h.zone; marks = h.marks; names = h.names; changed = h.changed; inside = h.inside; few = h.few }
tells-told_by version.Three s e h =
    record { zone = h.zone; marks = h.marks; names = h.names; changed = h.changed; inside = h.inside; few = h.few }

pub tells-told : (w : Sight) (s : State) (e : editor.State) → Tells s e → Tells (told w s) e
tells-told w s e h = tells-told_by w.version s e h

-- THE STEPS

-- the rules come to what the run comes to
abbrev pub Decided : Result State Fault → Stop → Type 0
Decided (Ok t) (Ends (Ok e)) = (s : editor.State) × Tells t s × (e.lines ≡ length s.lines)
Decided (Err f) (Ends (Err g)) = f ≡ g
Decided _ _ = ⊥

pub decided-fails : (f : Fault) (stop : Stop) → Decided (Err f) stop → stop ≡ Ends (Err f)
decided-fails f (Waits r) d = absurd d
decided-fails f (Ends (Ok e)) d = absurd d
decided-fails f (Ends (Err g)) d = ap (λ (h : Fault). Ends (Err h)) (sym d)

-- the first k of the steps that are left, and then a `Q`
abbrev pub front_of : (k : ℕ) → List Step → List Step
front_of k xs = take k xs ++ quit_anyway ∷ []

-- after none of the commands are there too many lines
abbrev pub StaysFew : List Step → Present → List Answer → Type 0
StaysFew xs m answers = (k : ℕ) (e : Ending) → stop_of (steps (front_of k xs) None m answers) ≡ Ends (Ok e) → e.lines ≤ most_lines

step-is : (x : Step) (m : Present) (go : Further) (answers : List Answer) (verb : Verb) → is_exact_verb verb ≡ true →
    ends_run verb ≡ false → step_by verb x m go answers ≡ one x.command m go answers
step-is x m go answers ed.Quit e q = absurd cc
step-is x m go answers ed.QuitAnyway e q = absurd cc
step-is x m go answers (ed.Global sense pattern) e q = absurd cc
step-is x m go answers _ e q = refl

-- a step that goes on
steps-is : (x : Step) (xs : List Step) (bad : Option ℕ) (m : Present) (answers : List Answer) →
    is_exact_verb x.command.verb ≡ true → ends_run x.command.verb ≡ false →
    stop_of (steps (x ∷ xs) bad m answers) ≡ stop_of (one x.command m (λ t more. steps xs bad t more) answers)
steps-is x xs bad m answers e q =
    prompted-stop m (step_by x.command.verb x m (λ t more. steps xs bad t more) answers) ∙ ap (λ (p : Progress). stop_of p)
    (step-is x m (λ t more. steps xs bad t more) answers x.command.verb e q)

-- THE END

abbrev quits_by : Bool → Present → Progress
quits_by is_changed m = elim is_changed [ true ↦ failing m fault.Unsaved | false ↦ ending m ]

flag-yes : (s : State) (e : editor.State) → Tells s e → s.changed.yes ≡ e.changed
flag-yes s e h = ap (λ (f : Changed). f.yes) h.changed ∙ yes e.changed
  where
    yes : (b : Bool) → (flag_of b).yes ≡ b
    yes true = refl
    yes false = refl

end-decided : (bad : Option ℕ) (s : State) (m : Present) → Tells s m.state → Decided (ended bad s) (stop_of (at_end bad m))
end-decided (Some line) s m h = refl
end-decided None s m h =
    (elim m.state.changed as (λ b. s.changed.yes ≡ b → Decided
    (elim s.changed.yes as (λ _. Result State Fault) [ true ↦ Err fault.Unsaved | false ↦ Ok s ])
    (stop_of (quits_by b m))) [
      | true ↦ λ e. rw e refl
      | false ↦ λ e. rw e (m.state, h, refl)
    ]) (flag-yes s m.state h)

-- QUITTING

-- neither addresses nor a suffix
abbrev bare : Verb → Bool → Command
bare verb listed = record { addresses = Without; verb = verb; suffix = None; listed = listed }

none-given : (verb : Verb) (a : Addresses) → takes_any (takes verb).taking ≡ false → may_have a verb ≡ true → a ≡ Without
none-given verb Without q h = refl
none-given verb (One b) q h = let bad : false ≡ true = sym q ∙ h in absurd cc
none-given verb (Comma b d) q h = let bad : false ≡ true = sym q ∙ h in absurd cc
none-given verb (Semicolon b d) q h = let bad : false ≡ true = sym q ∙ h in absurd cc

none-after : (suffix : Option Form) (takes_one : Bool) → takes_one ≡ false → (is_none suffix || takes_one) ≡ true →
    suffix ≡ None
none-after None takes_one q h = refl
none-after (Some form) takes_one q h = let bad : false ≡ true = sym q ∙ h in absurd cc

-- a command that takes nothing has nothing
bare-by : (c : Command) (verb : Verb) → is_exact c ≡ true → c.verb ≡ verb → takes_any (takes verb).taking ≡ false →
    (takes verb).suffix ≡ false → c ≡ bare verb c.listed
bare-by c verb e is no_address no_suffix =
    let both = and_parts (are_by_number c.addresses && is_exact_verb c.verb) (is_readable c) e in
    let reads = and_parts (may_have c.addresses c.verb && (is_none c.suffix || (takes c.verb).suffix)) (enters_lines c.verb) both.1 in
    let parts = and_parts (may_have c.addresses c.verb) (is_none c.suffix || (takes c.verb).suffix) reads.0 in
    ap (λ (v : Verb). record { addresses = c.addresses; verb = v; suffix = c.suffix; listed = c.listed }) is
    ∙ ap (λ (a : Addresses). record { addresses = a; verb = verb; suffix = c.suffix; listed = c.listed })
    (none-given verb c.addresses no_address (subst (λ (v : Verb). may_have c.addresses v ≡ true) is parts.0))
    ∙ ap (λ (f : Option Form). record { addresses = Without; verb = verb; suffix = f; listed = c.listed })
    (none-after c.suffix (takes verb).suffix no_suffix (subst (λ (v : Verb). (is_none c.suffix || (takes v).suffix) ≡ true) is parts.1))

-- what `q` does where the buffer is changed or not
abbrev quit_effect : Bool → editor.State → Result Effect Fault
quit_effect is_changed e =
    elim is_changed [ true ↦ Err fault.Unsaved | false ↦ Ok (Makes (record { state = e; output = []; alters = false })) ]

quit-command : (listed : Bool) (e : editor.State) (is_changed : Bool) → e.changed ≡ is_changed →
    command e (bare ed.Quit listed) (Some answer.Done) ≡ quit_effect is_changed e
quit-command listed e true is = rw is refl
quit-command listed e false is = rw is refl

quit-few : (is_changed : Bool) (e : editor.State) → length e.lines ≤ most_lines → LeavesFew (quit_effect is_changed e)
quit-few true e few = tt
quit-few false e few = few

quit-decided-by : (w : Sight) (is_changed : Bool) (m : Present) (r : Result State Fault) →
    EndAlike LeavesTold r (quit_effect is_changed m.state) → Decided (r >> λ t. Ok (told w t)) (stop_of (quits_by is_changed m))
quit-decided-by w true m (Ok t) h = absurd h
quit-decided-by w true m (Err f) h = h
quit-decided-by w false m (Ok t) h = (m.state, tells-told w t m.state h, refl)
quit-decided-by w false m (Err f) h = absurd h

end-decided-by : (w : Sight) (m : Present) (r : Result State Fault) →
    EndAlike LeavesTold r (Ok (Makes (record { state = m.state; output = []; alters = false }))) → Decided (r >> λ t. Ok (told w t))
    (stop_of (ending m))
end-decided-by w m (Ok t) h = (m.state, tells-told w t m.state h, refl)
end-decided-by w m (Err f) h = absurd h

walked-quits : (w : Sight) (x : Step) (xs : List Step) (bad : Option ℕ) (s : State) → ends_run x.command.verb ≡ true →
    walked w (x ∷ xs) bad s ≡ step w.watch x.command s >> λ t. Ok (told w t)
walked-quits w x xs bad s q =
    ap (λ (b : Bool). step w.watch x.command s >> λ t. goes_on w b xs bad (told w t)) q

walked-goes : (w : Sight) (x : Step) (xs : List Step) (bad : Option ℕ) (s t : State) → ends_run x.command.verb ≡ false →
    step w.watch x.command s ≡ Ok t → walked w (x ∷ xs) bad s ≡ walked w xs bad (told w t)
walked-goes w x xs bad s t q is =
    ap (λ (b : Bool). step w.watch x.command s >> λ u. goes_on w b xs bad (told w u)) q
    ∙ ap (λ (r : Result State Fault). r >> λ u. walked w xs bad (told w u)) is

quits-cases : (verb : Verb) → ends_run verb ≡ true → (verb ≡ ed.Quit) ⊎ (verb ≡ ed.QuitAnyway)
quits-cases ed.Quit q = inl refl
quits-cases ed.QuitAnyway q = inr refl
quits-cases _ q = absurd cc

steps-quit : (x : Step) (xs : List Step) (bad : Option ℕ) (m : Present) (answers : List Answer) (verb : Verb) →
    x.command.verb ≡ verb →
    stop_of (steps (x ∷ xs) bad m answers) ≡ stop_of (step_by verb x m (λ t more. steps xs bad t more) answers)
steps-quit x xs bad m answers verb is =
    prompted-stop m (step_by x.command.verb x m (λ t more. steps xs bad t more) answers)
    ∙ ap (λ (v : Verb). stop_of (step_by v x m (λ t more. steps xs bad t more) answers)) is

failed-told : (r : Result State Fault) (f : Fault) → EndAlike LeavesTold r (Err f) → r ≡ Err f
failed-told (Ok t) f h = absurd h
failed-told (Err e) f h = ap (λ (g : Fault). Err g) h

decided-by : {r t : Result State Fault} {y z : Stop} → r ≡ t → y ≡ z → Decided r y → Decided t z
decided-by {r = r} {t = t} {y = y} {z = z} is to h =
    subst (λ (p : Stop). Decided t p) to (subst (λ (q : Result State Fault). Decided q y) is h)

made-told : (r : Result State Fault) (o : Outcome) → EndAlike LeavesTold r (Ok (Makes o)) →
    (t : State) × (r ≡ Ok t) × Tells t o.state
made-told (Ok t) o h = (t, refl, h)
made-told (Err f) o h = absurd h

module _ (k : Laws) (w : Sight) where
  quitting-decided : (x : Step) (xs : List Step) (bad : Option ℕ) (s : State) (m : Present) (answers : List Answer) →
      is_exact x.command ≡ true → Tells s m.state → x.command.verb ≡ ed.Quit →
      Decided (walked w (x ∷ xs) bad s) (stop_of (steps (x ∷ xs) bad m answers))
  quitting-decided x xs bad s m answers e h is =
      let c : Command = x.command in
      let does : command m.state c (Some answer.Done) ≡ quit_effect m.state.changed m.state =
      ap (λ (d : Command). command m.state d (Some answer.Done)) (bare-by c ed.Quit e is refl refl)
      ∙ quit-command c.listed m.state m.state.changed refl in
      let few : LeavesFew (command m.state c (Some answer.Done)) =
      subst (λ (y : Result Effect Fault). LeavesFew y) (sym does) (quit-few m.state.changed m.state h.few) in
      let tells : EndAlike LeavesTold (step w.watch c s) (quit_effect m.state.changed m.state) =
      subst (λ (y : Result Effect Fault). EndAlike LeavesTold (step w.watch c s) y) does (k.command w.watch c s m.state e h few) in
      subst (λ (z : Stop). Decided (walked w (x ∷ xs) bad s) z) (sym (steps-quit x xs bad m answers ed.Quit is))
      (subst (λ (r : Result State Fault). Decided r (stop_of (quits_by m.state.changed m)))
      (sym (walked-quits w x xs bad s (ap (λ (v : Verb). ends_run v) is)))
      (quit-decided-by w m.state.changed m (step w.watch c s) tells))

  ending-decided : (x : Step) (xs : List Step) (bad : Option ℕ) (s : State) (m : Present) (answers : List Answer) →
      is_exact x.command ≡ true → Tells s m.state → x.command.verb ≡ ed.QuitAnyway →
      Decided (walked w (x ∷ xs) bad s) (stop_of (steps (x ∷ xs) bad m answers))
  ending-decided x xs bad s m answers e h is =
      let c : Command = x.command in
      let y : Result Effect Fault = Ok (Makes (record { state = m.state; output = []; alters = false })) in
      let does : command m.state c (Some answer.Done) ≡ y =
      ap (λ (d : Command). command m.state d (Some answer.Done)) (bare-by c ed.QuitAnyway e is refl refl) in
      let few : LeavesFew (command m.state c (Some answer.Done)) = subst (λ (z : Result Effect Fault). LeavesFew z) (sym does) h.few in
      let tells : EndAlike LeavesTold (step w.watch c s) y =
      subst (λ (z : Result Effect Fault). EndAlike LeavesTold (step w.watch c s) z) does (k.command w.watch c s m.state e h few) in
      subst (λ (z : Stop). Decided (walked w (x ∷ xs) bad s) z) (sym (steps-quit x xs bad m answers ed.QuitAnyway is))
      (subst (λ (r : Result State Fault). Decided r (stop_of (ending m)))
      (sym (walked-quits w x xs bad s (ap (λ (v : Verb). ends_run v) is)))
      (end-decided-by w m (step w.watch c s) tells))

  pub ends-decided : (x : Step) (xs : List Step) (bad : Option ℕ) (s : State) (m : Present) (answers : List Answer) →
      is_exact x.command ≡ true → Tells s m.state → ends_run x.command.verb ≡ true →
      Decided (walked w (x ∷ xs) bad s) (stop_of (steps (x ∷ xs) bad m answers))
  ends-decided x xs bad s m answers e h q = elim (quits-cases x.command.verb q) [
    | inl is ↦ quitting-decided x xs bad s m answers e h is
    | inr is ↦ ending-decided x xs bad s m answers e h is
  ]

  -- a step that doesn't end the run goes on, by its rule and in the run
  pub record GoesOn (x : Step) (s : State) (m : Present) (answers : List Answer) : Type 0 where
    pub next : State
    pub reached : Present
    pub later : List Answer
    pub rule : step w.watch x.command s ≡ Ok next
    pub tells : Tells (told w next) reached.state
    pub done : AreDone later
    pub enough : length answers ≤ suc (length later)
    pub goes : (xs : List Step) (bad : Option ℕ) → stop_of (steps (x ∷ xs) bad m answers) ≡ stop_of (steps xs bad reached later)

  -- it fails in both, by one fault
  pub record FailsOn (x : Step) (s : State) (m : Present) (answers : List Answer) : Type 0 where
    pub fault : Fault
    pub rule : step w.watch x.command s ≡ Err fault
    pub stops : (xs : List Step) (bad : Option ℕ) → stop_of (steps (x ∷ xs) bad m answers) ≡ Ends (Err fault)

  pub step-decided : (x : Step) (xs : List Step) (s : State) (m : Present) (answers : List Answer) → is_exact x.command ≡ true →
      Tells s m.state → AreDone answers → 1 ≤ length answers → StaysFew (x ∷ xs) m answers →
      ends_run x.command.verb ≡ false →
      FailsOn x s m answers ⊎ GoesOn x s m answers
  step-decided x xs s m answers e h done enough few q =
      let does : (ys : List Step) (b : Option ℕ) →
      stop_of (steps (x ∷ ys) b m answers) ≡ stop_of (one x.command m (λ t more. steps ys b t more) answers) =
      λ (ys : List Step) (b : Option ℕ). steps-is x ys b m answers (exact-verb x.command e) q in
      elim (comes-by k x.command m answers done enough) [
        | inl f ↦
            let tells : EndAlike LeavesTold (step w.watch x.command s) (Err f.fault) =
            subst (λ (y : Result Effect Fault). EndAlike LeavesTold (step w.watch x.command s) y) f.comes
            (k.command w.watch x.command s m.state e h (subst (λ (y : Result Effect Fault). LeavesFew y) (sym f.comes) tt)) in
            inl (record {
              fault = f.fault;
              rule = failed-told (step w.watch x.command s) f.fault tells;
              stops = λ ys b. does ys b ∙ f.stops (λ t more. steps ys b t more);
            })
        | inr g ↦
            let n : Present = turned x.command.verb (reached g.outcome m) in
            let same : n.state ≡ g.outcome.state = turned-state x.command.verb (reached g.outcome m) in
            let on : (ys : List Step) (b : Option ℕ) → stop_of (steps (x ∷ ys) b m answers) ≡ stop_of (steps ys b n g.later) =
            λ (ys : List Step) (b : Option ℕ). does ys b ∙ g.goes (λ t more. steps ys b t more) in
            let much : length n.state.lines ≤ most_lines =
            few 1 (record { lines = length n.state.lines }) (on (front_of 0 xs) None ∙ prompted-stop n (ending n)) in
            let made = made-told (step w.watch x.command s) g.outcome
            (subst (λ (y : Result Effect Fault). EndAlike LeavesTold (step w.watch x.command s) y) g.comes
            (k.command w.watch x.command s m.state e h
            (subst (λ (y : Result Effect Fault). LeavesFew y) (sym g.comes)
            (subst (λ (f : editor.State). length f.lines ≤ most_lines) same much)))) in
            inr (record {
              next = made.0;
              reached = n;
              later = g.later;
              rule = made.1;
              tells = subst (λ (f : editor.State). Tells (told w made.0) f) (sym same) (tells-told w made.0 g.outcome.state made.2);
              done = g.done;
              enough = g.enough;
              goes = on;
            })
      ]

  -- the steps after one that goes on
  pub few-after : (x : Step) (xs : List Step) (s : State) (m : Present) (answers : List Answer) → StaysFew (x ∷ xs) m answers →
      (g : GoesOn x s m answers) → StaysFew xs g.reached g.later
  few-after x xs s m answers few g i e stop = few (suc i) e (g.goes (front_of i xs) None ∙ stop)

  pub decided : (xs : List Step) (bad : Option ℕ) (s : State) (m : Present) (answers : List Answer) → are_exact xs ≡ true →
      Tells s m.state → AreDone answers → length xs ≤ length answers → StaysFew xs m answers →
      Decided (walked w xs bad s) (stop_of (steps xs bad m answers))
  decided [] bad s m answers e h done enough few =
      subst (λ (z : Stop). Decided (ended bad s) z) (sym (prompted-stop m (at_end bad m))) (end-decided bad s m h)
  decided (x ∷ xs) bad s m answers e h done enough few =
      let both = exact-both x xs e in
      (elim (ends_run x.command.verb) as (λ q. ends_run x.command.verb ≡ q → Decided (walked w (x ∷ xs) bad s)
      (stop_of (steps (x ∷ xs) bad m answers))) [
        | true ↦ λ q. ends-decided x xs bad s m answers both.0 h q
        | false ↦ λ q. elim (step-decided x xs s m answers both.0 h done (omega arith) few q) [
          | inl f ↦ decided-by (sym (walked-fails w x xs bad s f.fault f.rule)) (sym (f.stops xs bad)) refl
          | inr g ↦ decided-by (sym (walked-goes w x xs bad s g.next q g.rule)) (sym (g.goes xs bad))
              (decided xs bad (told w g.next) g.reached g.later both.1 g.tells g.done (let some = g.enough in omega arith)
              (few-after x xs s m answers few g))
        ]
      ]) refl
