-- Accepted commands run to their end, from each state that what comes in stands for.
use Rattle.std.proofs.Common.{◌≡◌, ◌<◌, ◌≤◌, inl, inr, ℕ, suc, ℤ, pos, neg_ℤ, ◌-ℤ◌, ◌≤ℤ◌, Bool, true, false, not, List, [], ◌∷◌, length, Option, None, Some, Result, Ok, Err, IfOk, IsTrue, ◌↔◌, arith, refl, ◌∙◌, sym, ap, subst}
use Rattle.std.specs.Prelude.{nat_eq}
use Rattle.std.specs.List.{Contains, list_any}
use Rattle.std.specs.Cmp.Lexicographic.{pointwise, bytes_decides}
use Rattle.std.proofs.lemmas.Int.{ints}
use Rattle.std.proofs.lemmas.List.Elements.{All-nil, All-cons}
use Rattle.std.proofs.lemmas.Bool.{or_cases, not-true, false≢true}
use Rattle.ed_base.specs.declared.fault.Fault.{Fault}
use Rattle.ed_base.specs.declared.fault.Fault.TheVariants as fault
use Rattle.zones.specs.Zone.{Bounds, Numbers, Holds}
use Rattle.zones.specs.Known.{known}
use Rattle.ed_syntax.specs.declared.request.Answer.{Answer}
use Rattle.ed_syntax.specs.declared.request.Request.{Request}
use Rattle.ed_syntax.specs.declared.request.Request.TheVariants as request
use Rattle.ed_syntax.specs.Commands as ed
use Rattle.ed_syntax.specs.Commands.{Verb, Command, Step}
use Rattle.ed_syntax.specs.meaning.States as editor
use Rattle.ed_syntax.specs.meaning.Effects.{Outcome, Effect, Makes, Asks}
use Rattle.ed_syntax.specs.meaning.Applied.{command}
use Rattle.ed_syntax.specs.meaning.Progress.{Present, Progress, Writes, failing, ending, quitting, count}
use Rattle.ed_syntax.specs.meaning.Runs.{Further, with_state, answered, asking, turned, one, step_by, prompted, at_end}
use Rattle.ed_rules.specs.declared.state.State.{State}
use Rattle.ed_rules.specs.Order.{Covers}
use Rattle.cert_check.proofs.verdicts.Opening.{nothing-holds}
use Rattle.cert_check.specs.checker.Covering.{covers}
use Rattle.ed_rules.specs.Soundness.{MayAskFor, IsDone, CommandIsSound}
use Rattle.ed_rules.specs.Files.{written_paths}
use Rattle.ed_syntax.specs.meaning.CommandLaws.{CommandsArePlaced}
use Rattle.ed_syntax.specs.meaning.Verbs.{is_global, ends_run}
use Rattle.ed_syntax.specs.meaning.States.{Past, Nothing, Same, Was, Kept}
use Rattle.ed_rules.specs.declared.state.Old.{Old}
use Rattle.ed_rules.specs.declared.state.Undo.{Undo}
use Rattle.ed_rules.specs.States.{old_without_facts}
use Rattle.ed_rules.specs.GlobalSoundness.{NoFlagsAreKept}
use Rattle.ed_rules.proofs.Choosing.{has_choice-all}
use Rattle.ed_rules.specs.StandsFor.{KeepsMatched, StandsBy, StandsFor, AllowsKept, AllowsPast, allows_change}
use Rattle.ed_rules.specs.LineBounds.{IsAtMost, IsWithin}
use Rattle.cert_check.specs.Certificates.{Certificate}
use Rattle.cert_check.specs.declared.certificate.Version.{Version}
use Rattle.cert_check.specs.declared.certificate.Version.TheVariants as version
use Rattle.cert_check.specs.declared.sight.Sight.{Sight}
use Rattle.cert_check.specs.checker.Valid.{told_by, told, counted, are_met, left_by, is_listed, are_listed, knows_least, knows_most}
use Rattle.cert_check.specs.checker.Sound.{MayAsk, RunsWell, GlobalGoesWell}
use Rattle.cert_check.proofs.verdicts.FormedFacts.{in-form-stands-by, in-form-stands}
use Rattle.cert_check.proofs.verdicts.Checks.{EndsSo, NeedsAreTheSame, plainly_left, met-gives}
use Rattle.cert_check.proofs.verdicts.Quitting.{SameMade, SavedMade, quit-leaves, saved-leaves}

-- the laws on one command and on what covers a state
pub record Laws : Type 0 where
  pub command : CommandIsSound
  pub needs : NeedsAreTheSame
  pub decided : (weak strong : State) → IsTrue (covers weak strong) ↔ Covers weak strong
  pub weaker : (weak strong : State) (e : editor.State) → Covers weak strong → StandsFor strong e → StandsFor weak e

-- and those on the other parts of a run
pub record RunLaws : Type 0 where
  pub single : Laws
  pub global : GlobalGoesWell
  pub placed : CommandsArePlaced
  pub no_flags : NoFlagsAreKept
  pub known : (zone : Bounds) (number : Numbers) (x y : ℕ) (c : ℤ) → known zone x y c ≡ true → x < 32 → y < 32 →
      Holds zone number → (number x -ℤ number y) ≤ℤ c

-- what is told of a state stands for all that it stands for
kept-nothing : (past : Past) → KeepsMatched [] past
kept-nothing Nothing = tt
kept-nothing Same = tt
kept-nothing (Was kept) = refl

past-without : (undo : Undo) (past : Past) → AllowsPast undo past → AllowsPast (record undo { was = old_without_facts undo.was }) past
past-without undo Nothing h = h
past-without undo Same h = h
past-without undo (Was kept) h = kept-without undo.was kept h
  where
    kept-without : (was : Option Old) (kept : Kept) → AllowsKept was kept → AllowsKept (old_without_facts was) kept
    kept-without None kept h = h
    kept-without (Some old) kept h = (h.0, h.1, nothing-holds h.0 kept.lines)

stands-told : (v : Version) (s : State) (e : editor.State) (number : Numbers) → StandsBy s e number → StandsBy (told_by v s) e number
stands-told version.One s e number st =
    record { buffer = st.buffer; remembered = st.remembered; changed = st.changed; past = past-without s.undo e.past st.past }
stands-told version.Two s e number st =
    record { buffer = st.buffer; remembered = st.remembered; changed = st.changed; past = past-without s.undo e.past st.past }
stands-told version.Three s e number st = in-form-stands-by s e number st

pub told-stands-by : (v : Version) (s : State) (e : editor.State) → StandsFor s e → StandsFor (told_by v s) e
told-stands-by version.One s e st = record {
  numbers = st.numbers;
  stands = stands-told version.One s e st.numbers st.stands;
  lines = st.lines;
  kept = st.kept;
  matches = (refl, kept-nothing e.past);
  facts = nothing-holds st.numbers e.lines;
}
told-stands-by version.Two s e st = record {
  numbers = st.numbers;
  stands = stands-told version.Two s e st.numbers st.stands;
  lines = st.lines;
  kept = st.kept;
  matches = st.matches;
  facts = nothing-holds st.numbers e.lines;
}
told-stands-by version.Three s e st = in-form-stands s e st

pub told-stands : (w : Sight) (s : State) (e : editor.State) → StandsFor s e → StandsFor (told w s) e
told-stands w s e st = told-stands-by w.version s e st

pub left-stands : (w : Sight) (c : Command) (s : State) (e : editor.State) → StandsFor (plainly_left w c s) e →
    StandsFor (left_by w c s) e
unfolding left_by
left-stands w c s e st = told-stands w (plainly_left w c s) e st

-- what covers a state stands for all that it stands for
pub covers-stands : Laws → (weak strong : State) (e : editor.State) → covers weak strong ≡ true → StandsFor strong e →
    StandsFor weak e
covers-stands k weak strong e h st = k.weaker weak strong e ((k.decided weak strong).0 h) st

least-holds : RunLaws → (s : State) (low : ℕ) (e : editor.State) → knows_least s.zone low ≡ true → StandsFor s e →
    low ≤ length e.lines
unfolding knows_least
least-holds k s low e h st =
    let d = k.known s.zone st.numbers 0 2 (neg_ℤ (pos low)) h (omega arith) (omega arith) st.stands.buffer.holds in
    let zero_is = st.stands.buffer.reads.zero_is in
    let last_is = st.stands.buffer.reads.last_is in
    omega (arith, ints)

most-holds : RunLaws → (s : State) (high : Option ℕ) (e : editor.State) → knows_most s.zone high ≡ true → StandsFor s e →
    IsAtMost (length e.lines) high
unfolding knows_most
most-holds k s None e h st = tt
most-holds k s (Some high) e h st =
    let d = k.known s.zone st.numbers 2 0 (pos high) h (omega arith) (omega arith) st.stands.buffer.holds in
    let zero_is = st.stands.buffer.reads.zero_is in
    let last_is = st.stands.buffer.reads.last_is in
    omega (arith, ints)

-- the number of lines of each state that the end stands for
within-end : RunLaws → (quit : Bool) (bad : Option ℕ) (c : Certificate) (s : State) (e : editor.State) → EndsSo quit bad c s →
    StandsFor s e → IsWithin c.low c.high (length e.lines)
within-end k quit bad c s e h st =
    let last : StandsFor c.last e = covers-stands k.single c.last s e h.covered st in
    (least-holds k c.last c.low e h.least last, most-holds k c.last c.high e h.most last)

pub prompted-well : (c : Certificate) (m : Present) (p : Progress) → RunsWell c p → RunsWell c (prompted m p)
prompted-well c m p well =
    elim m.prompting as (λ b. RunsWell c (elim b as (λ _. Progress) [ true ↦ Writes m.help m.prompt p | false ↦ p ]))
    [ true ↦ well | false ↦ well ]

-- the run ends here
ending-well : (c : Certificate) (m : Present) → IsWithin c.low c.high (length m.state.lines) → RunsWell c (ending m)
ending-well c m h = (All-nil (MayAsk c), h)

-- the end of a script without a quit is a `q`
quitting-well : RunLaws → (bad : Option ℕ) (c : Certificate) (s : State) (m : Present) → EndsSo false bad c s →
    StandsFor s m.state → RunsWell c (quitting m)
quitting-well k bad c s m h st =
    (elim m.state.changed as (λ b. m.state.changed ≡ b →
    RunsWell c (elim b as (λ _. Progress) [ true ↦ failing m fault.Unsaved | false ↦ ending m ])) [
      | true ↦ λ e.
          let last : StandsFor c.last m.state = covers-stands k.single c.last s m.state h.covered st in
          let may : allows_change c.last.changed true ≡ true =
          subst (λ (b : Bool). allows_change c.last.changed b ≡ true) e last.stands.changed in
          absurd (false≢true (sym (not-true c.last.changed.yes h.saved) ∙ may))
      | false ↦ λ e. ending-well c m (within-end k false bad c s m.state h st)
    ]) refl

pub at_end-well : RunLaws → (bad : Option ℕ) (c : Certificate) (s : State) (m : Present) → EndsSo false bad c s →
    StandsFor s m.state → RunsWell c (at_end bad m)
at_end-well k None c s m h st = quitting-well k None c s m h st
at_end-well k (Some line) c s m h st = let f : false ≡ true = h.readable in absurd cc

-- a listed path may be asked for
listed-contained : (writes : List (List ℕ)) (path : List ℕ) → list_any (λ listed. pointwise nat_eq listed path) writes ≡ true →
    Contains writes path
listed-contained [] path h = absurd cc
listed-contained (w ∷ writes) path h =
    elim (or_cases (pointwise nat_eq w path) (list_any (λ listed. pointwise nat_eq listed path) writes) h) [
      | inl e ↦ let same : w ≡ path = (bytes_decides w path).0 e in (0, omega arith, same)
      | inr e ↦ let q = listed-contained writes path e in let k = q.1 in (suc q.0, omega arith, q.2)
    ]

may-listed : (c : Certificate) (x : Command) (s : State) (r : Request) → are_listed c.writes x s ≡ true → MayAskFor x s None r →
    MayAsk c r
may-listed c x s (request.Read path) l h = tt
may-listed c x s (request.Write path bytes) l h =
    listed-contained c.writes path (has_choice-all (is_listed c.writes) (written_paths x.verb s) (Some path) l h)

-- a command leads from one state of the editor to another
abbrev pub Leads : Command → (before after : editor.State) → Type 0
Leads x e f = (given : Option Answer) × (o : Outcome) × (command e x given ≡ Ok (Makes o)) × (o.state ≡ f)

-- what is made of an answer, and the run after it
answered-well : (c : Certificate) (x : Command) (s t : State) (m : Present) (a : Answer) (counted : List ℕ) (y : Result Effect Fault)
    (go : Further) (answers : List Answer) → command m.state x (Some a) ≡ y → IsDone x s t m.state (Some a) y →
    ((e : editor.State) (more : List Answer) → Leads x m.state e → StandsFor t e → RunsWell c (go (with_state e m) more)) →
    RunsWell c (answered m counted y go answers)
answered-well c x s t m a counted (Err f) go answers is done h = (All-nil (MayAsk c), done.3)
answered-well c x s t m a counted (Ok (Makes o)) go answers is done h = h o.state answers (Some a, o, is, refl) done
answered-well c x s t m a counted (Ok (Asks r)) go answers is done h = absurd done

-- a command that its rule vouches for, and the run after it
asking-well : (c : Certificate) (x : Command) (s t : State) (m : Present) (y : Result Effect Fault) (go : Further)
    (answers : List Answer) → are_listed c.writes x s ≡ true → command m.state x None ≡ y → IsDone x s t m.state None y →
    ((a : Answer) → IsDone x s t m.state (Some a) (command m.state x (Some a))) →
    ((e : editor.State) (more : List Answer) → Leads x m.state e → StandsFor t e → RunsWell c (go (with_state e m) more)) →
    RunsWell c (asking m y (λ a. command m.state x (Some a)) go answers)
asking-well c x s t m (Err f) go answers l is done later h = absurd done
asking-well c x s t m (Ok (Makes o)) go answers l is done later h = h o.state answers (None, o, is, refl) done
asking-well c x s t m (Ok (Asks r)) go [] l is done later h = (All-nil (MayAsk c), may-listed c x s r l done)
asking-well c x s t m (Ok (Asks r)) go (a ∷ answers) l is done later h =
    let well = answered-well c x s t m a (count m.silent r a) (command m.state x (Some a)) go answers refl (later a) h in
    (All-cons (MayAsk c) r _ (may-listed c x s r l done) well.0, well.1)

pub turned-state : (v : Verb) (m : Present) → (turned v m).state ≡ m.state
turned-state ed.HelpMode m = refl
turned-state ed.PromptMode m = refl
turned-state _ m = refl

pub one-well : Laws → (w : Sight) (c : Certificate) (x : Command) (s : State) (m : Present) (go : Further) (answers : List Answer) →
    are_met x s ≡ true → are_listed c.writes x s ≡ true → StandsFor s m.state →
    ((q : Present) (more : List Answer) → Leads x m.state q.state → StandsFor (left_by w x s) q.state → RunsWell c (go q more)) →
    RunsWell c (one x m go answers)
one-well k w c x s m go answers met l st h =
    let t : State = plainly_left w x s in
    let gives = met-gives k.needs w x s met in
    asking-well c x s t m (command m.state x None) (λ q. go (turned x.verb q)) answers l refl
    (k.command w.watch x s t m.state None st gives) (λ a. k.command w.watch x s t m.state (Some a) st gives)
    (λ e more leads stands.
    let same = sym (turned-state x.verb (with_state e m)) in
    h (turned x.verb (with_state e m)) more (subst (λ (u : editor.State). Leads x m.state u) same leads)
    (left-stands w x s (turned x.verb (with_state e m)).state (subst (λ (u : editor.State). StandsFor t u) same stands)))

-- a command that doesn't end the run
pub going-on : (v : Verb) (x : Step) (m : Present) (go : Further) (answers : List Answer) → ends_run v ≡ false →
    not (is_global v) ≡ true → step_by v x m go answers ≡ one x.command m go answers
going-on ed.Quit x m go answers e single = absurd cc
going-on ed.QuitAnyway x m go answers e single = absurd cc
going-on (ed.Global sense pattern) x m go answers e single = absurd cc
going-on _ x m go answers e single = refl

-- the lines of what its rule stands for are those of the run
quit-within : (c : Certificate) (x : Command) (s t : State) (e : editor.State) (y : Result Effect Fault) → IsDone x s t e None y →
    IfOk y (SameMade e) →
    ((u : editor.State) → StandsFor t u → IsWithin c.low c.high (length u.lines)) → IsWithin c.low c.high (length e.lines)
quit-within c x s t e (Err f) a same h = absurd a
quit-within c x s t e (Ok (Asks r)) a same h = absurd same
quit-within c x s t e (Ok (Makes o)) a same h =
    let lines : o.state.lines ≡ e.lines = same in
    subst (λ (n : ℕ). IsWithin c.low c.high n) (ap length lines) (h o.state a)

-- a command without a fault that is refused where the buffer is changed
saved-made : (x : Command) (s t : State) (e : editor.State) (y : Result Effect Fault) → IsDone x s t e None y → IfOk y (SavedMade e) →
    IfOk y (SameMade e) × (e.changed ≡ false)
saved-made x s t e (Err f) a made = absurd a
saved-made x s t e (Ok f) a made = made

quit-well : RunLaws → (w : Sight) (quit : Bool) (bad : Option ℕ) (c : Certificate) (x : Command) (s : State) (m : Present) →
    IfOk (command m.state x None) (SameMade m.state) → are_met x s ≡ true → StandsFor s m.state →
    EndsSo quit bad c (left_by w x s) → RunsWell c (ending m)
quit-well k w quit bad c x s m same met st h =
    let t : State = plainly_left w x s in
    ending-well c m
    (quit-within c x s t m.state (command m.state x None)
    (k.single.command w.watch x s t m.state None st (met-gives k.single.needs w x s met)) same
    (λ u stands. within-end k quit bad c (left_by w x s) u h (left-stands w x s u stands)))

quitting-saved : (m : Present) → m.state.changed ≡ false → quitting m ≡ ending m
quitting-saved m e = ap (λ (b : Bool). elim b as (λ _. Progress) [ true ↦ failing m fault.Unsaved | false ↦ ending m ]) e

-- a command that ends it
pub ended-well : RunLaws → (w : Sight) (quit : Bool) (bad : Option ℕ) (c : Certificate) (x : Step) (s : State) (m : Present)
    (go : Further) (answers : List Answer) (v : Verb) → x.command.verb ≡ v → ends_run v ≡ true → are_met x.command s ≡ true →
    StandsFor s m.state → EndsSo quit bad c (left_by w x.command s) → RunsWell c (step_by v x m go answers)
ended-well k w quit bad c x s m go answers ed.QuitAnyway is e met st h =
    let d : Command = x.command in
    quit-well k w quit bad c d s m
    (subst (λ (v : Verb).
    IfOk (command m.state (record { addresses = d.addresses; verb = v; suffix = d.suffix; listed = d.listed }) None) (SameMade m.state))
    (sym is)
    (quit-leaves k.placed d.addresses d.suffix d.listed m.state None)) met st h
ended-well k w quit bad c x s m go answers ed.Quit is e met st h =
    let d : Command = x.command in
    let t : State = plainly_left w d s in
    let made = saved-made d s t m.state (command m.state d None)
    (k.single.command w.watch d s t m.state None st (met-gives k.single.needs w d s met))
    (subst (λ (v : Verb).
    IfOk (command m.state (record { addresses = d.addresses; verb = v; suffix = d.suffix; listed = d.listed }) None) (SavedMade m.state))
    (sym is)
    (saved-leaves k.placed d.addresses d.suffix d.listed m.state None)) in
    subst (λ (p : Progress). RunsWell c p) (sym (quitting-saved m made.1)) (quit-well k w quit bad c d s m made.0 met st h)
ended-well k w quit bad c x s m go answers _ is e met st h = absurd cc
