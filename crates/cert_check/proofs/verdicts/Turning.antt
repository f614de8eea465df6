-- Accepted lists run well, once for each line, from each state that the invariant stands for; and so do global commands.
use Rattle.std.proofs.Common.{◌≡◌, ◌≤◌, inl, inr, ℕ, zero, suc, ◌+◌, Bool, true, false, cond, not, ◌&&◌, List, [], ◌∷◌, length, Option, None, Some, option_map, is_some, Ok, arith, refl, ◌∙◌, sym, ap, subst}
use Rattle.std.specs.Prelude.{◌==◌}
use Rattle.std.specs.List.{list_all}
use Rattle.std.proofs.lemmas.Bool.{and_parts, eqb-true, or_left, or_right, not-true, false≢true}
use Rattle.std.proofs.lemmas.List.Elements.{All-nil, All-cons}
use Rattle.ed_base.specs.Buffer.{Line}
use Rattle.ed_syntax.specs.declared.request.Answer.{Answer}
use Rattle.ed_syntax.specs.Commands as ed
use Rattle.ed_syntax.specs.Commands.{Verb, Command, Step}
use Rattle.ed_syntax.specs.meaning.Applied.{command}
use Rattle.ed_syntax.specs.meaning.CommandLaws.{Notes, ListsAddNoFlags, ListsNoteChanges}
use Rattle.ed_syntax.specs.meaning.Effects.{Outcome, Makes}
use Rattle.ed_syntax.specs.meaning.Verbs as verbs
use Rattle.ed_syntax.specs.meaning.Verbs.{may_alter, is_global}
use Rattle.ed_syntax.specs.meaning.States as editor
use Rattle.ed_syntax.specs.meaning.States.{Open, kept, noted}
use Rattle.ed_syntax.specs.meaning.Globals.{flags, opened, next_taken, closed}
use Rattle.ed_syntax.specs.meaning.Progress.{Present, Progress}
use Rattle.ed_syntax.specs.meaning.Runs.{Further, with_state, one, listed, turn, turns, global, step_by, step}
use Rattle.ed_rules.specs.declared.state.State.{State}
use Rattle.ed_rules.specs.Globals.{body_entry, once_entry, list_may_alter, loop_end}
use Rattle.ed_rules.specs.GlobalSoundness.{FlaggedPass, is_taken_by, passes_none, HasNoFlags, StartIsSound, FlagsAreKept, TakenHaveFlags, NoneAreLeft, TurnIsSound, OnceIsSound, EndIsSound}
use Rattle.ed_rules.specs.StandsFor.{StandsFor}
use Rattle.cert_check.specs.declared.certificate.Version.{Version}
use Rattle.cert_check.specs.declared.certificate.Version.TheVariants as version
use Rattle.cert_check.specs.declared.checker.verdict.Verdict.TheVariants.{Accepted}
use Rattle.cert_check.specs.declared.sight.Sight.{Sight}
use Rattle.cert_check.specs.Certificates.{Looped, Certificate}
use Rattle.cert_check.specs.checker.Covering.{covers}
use Rattle.cert_check.specs.checker.Valid.{told_by, told, Check, at_place, inner_at, verdict_of, are_met, left_by, are_listed, list_checks, once_by, runs_once, entry_of, left_by_inner, turn_checks, left_after, step_checks, fits_list}
use Rattle.cert_check.specs.checker.Sound.{RunsWell, IsUnflagged, GoesWell, GlobalGoesWell}
use Rattle.cert_check.proofs.verdicts.Checks.{first-holds, plainly_left, met-gives}
use Rattle.cert_check.specs.declared.checker.verdict.Place.{Place}
use Rattle.cert_check.proofs.verdicts.Flags.{is-taken, none-left, never-taken, over-unflagged}
use Rattle.cert_check.proofs.verdicts.Running.{Laws, Leads, told-stands-by, told-stands, left-stands, covers-stands, one-well}

-- the laws on one command, and those on the parts of a global one
pub record ListLaws : Type 0 where
  pub single : Laws
  pub changes : ListsNoteChanges
  pub counts : ListsAddNoFlags
  pub begun : StartIsSound
  pub flags : FlagsAreKept
  pub taken : TakenHaveFlags
  pub none : NoneAreLeft
  pub turn : (verb : Verb) (invariant : State) → TurnIsSound verb invariant (body_entry verb invariant)
  pub once : (c : Command) (invariant entry : State) → once_entry c invariant ≡ Some entry → OnceIsSound c invariant entry
  pub over : (x : Step) (before invariant : State) → EndIsSound x before invariant (loop_end x before invariant)

-- THE LINES OF THE LIST

-- The verb by whose pattern the lines with the flag are known to match. Version 1 tells nothing of that, as if it were a verb without
-- a pattern.
abbrev pub tested : Version → Verb → Verb
tested version.One verb = ed.QuitAnyway
tested version.Two verb = verb
tested version.Three verb = verb

all-taken : (ls : List Line) → FlaggedPass (is_taken_by ed.QuitAnyway) ls
all-taken [] = All-nil (λ (line : Line). line.flag ≡ true → is_taken_by ed.QuitAnyway line.bytes ≡ true)
all-taken (l ∷ ls) =
    All-cons (λ (line : Line). line.flag ≡ true → is_taken_by ed.QuitAnyway line.bytes ≡ true) l ls (λ flag. refl) (all-taken ls)

first-taken : TakenHaveFlags → (v : Version) (c : Command) (e : editor.State) (given : Option Answer) (o : Outcome) →
    command e c given ≡ Ok (Makes o) → is_global c.verb ≡ true → IsUnflagged v e →
    FlaggedPass (is_taken_by (tested v c.verb)) o.state.lines
first-taken k version.One c e given o is g none = all-taken o.state.lines
first-taken k version.Two c e given o is g none = k c e given o is g none
first-taken k version.Three c e given o is g none = k c e given o is g none

-- what the version tells of the list's first state stands for the editor with a line that was taken
entry-stands : (v : Version) (verb : Verb) (invariant : State) (e : editor.State) → StandsFor (body_entry (tested v verb) invariant) e →
    StandsFor (told_by v (body_entry verb invariant)) e
entry-stands version.One verb invariant e st = told-stands-by version.One (body_entry ed.QuitAnyway invariant) e st
entry-stands version.Two verb invariant e st = told-stands-by version.Two (body_entry verb invariant) e st
entry-stands version.Three verb invariant e st = told-stands-by version.Three (body_entry verb invariant) e st

-- The global command that is open began where the editor was in this state, and knows of a change only where its list may make one. The
-- lines that have its flag pass a test, and are at most so many.
pub record Inside (test : List ℕ → Bool) (x : Step) (most : ℕ) (begun now : editor.State) : Type 0 where
  pub here : Open
  pub is : now.global ≡ Some here
  pub before : here.before ≡ kept begun
  pub may : here.altered ≡ true → list_may_alter x.list ≡ true
  pub pass : FlaggedPass test now.lines
  pub few : flags now ≤ most

noted-open : (list : List Command) (v : Verb) (f g : editor.State) (here : Open) →
    (may_alter v ≡ true → list_may_alter list ≡ true) → Notes v f.global g.global → f.global ≡ Some here →
    (here.altered ≡ true → list_may_alter list ≡ true) →
    (now : Open) × (g.global ≡ Some now) × (now.before ≡ here.before) × (now.altered ≡ true → list_may_alter list ≡ true)
noted-open list v f g here may (inl same) is m = (here, same ∙ is, refl, m)
noted-open list v f g here may (inr (n, same)) is m = (noted here, same ∙ ap (option_map noted) is, refl, λ _. may n)

-- after a command of the list it is so
leads-inside : ListLaws → (test : List ℕ → Bool) (x : Step) (most : ℕ) (d : Command) → verbs.is_listed d ≡ true →
    (may_alter d.verb ≡ true → list_may_alter x.list ≡ true) → (e f g : editor.State) → Leads d f g → Inside test x most e f →
    Inside test x most e g
leads-inside k test x most d is_listed may e f g leads i =
    let o : Outcome = leads.1 in
    let now = noted-open x.list d.verb f g i.here may
    (subst (λ (u : editor.State). Notes d.verb f.global u.global) leads.3 (k.changes f d leads.0 o leads.2 is_listed)) i.is i.may in
    let fewer : flags o.state ≤ flags f = k.counts f d leads.0 o leads.2 is_listed in
    let few = i.few in
    let count : flags o.state ≤ most = omega arith in
    record {
      here = now.0;
      is = now.1;
      before = now.2 ∙ i.before;
      may = now.3;
      pass = subst (λ (u : editor.State). FlaggedPass test u.lines) leads.3 (k.flags test d f leads.0 o leads.2 is_listed i.pass);
      few = subst (λ (u : editor.State). flags u ≤ most) leads.3 count;
    }

-- and once a line is taken, of which there are fewer then
taken-inside : (test : List ℕ → Bool) (x : Step) (most : ℕ) (e f g : editor.State) → next_taken f ≡ Some g →
    Inside test x (suc most) e f → Inside test x most e g
taken-inside test x most e f g is i =
    let few = i.few in
    let left = is-taken test most f g is i.pass (omega arith) in
    record { here = i.here; is = left.same ∙ i.is; before = i.before; may = i.may; pass = left.pass; few = left.few }

-- THE LIST

-- what the list leaves is checked, whether or not it is run
list-turned : (w : Sight) (number : ℕ) (writes : List (List ℕ)) (turned : ℕ → State → List Check) (cs : List Command)
    (states : List State) (inner : ℕ) (coming : State) → length states ≡ length cs →
    verdict_of (list_checks w number inner writes coming cs states turned) ≡ Accepted →
    (last : ℕ) × (verdict_of (turned last (left_by_inner w cs states coming)) ≡ Accepted)
list-turned w number writes turned [] states inner coming size a = (inner, a)
list-turned w number writes turned (x ∷ cs) [] inner coming size a = absurd (omega arith)
list-turned w number writes turned (x ∷ cs) (s ∷ states) inner coming size a =
    let covered = first-holds (covers s coming) _ _ a in
    let met = first-holds (are_met x s) _ _ covered.1 in
    let paths = first-holds (are_listed writes x s) _ _ met.1 in
    list-turned w number writes turned cs states (inner + 1) (left_by w x s) (omega arith) paths.1

-- the commands of the list that are left for a line, which leave the state `left`
module _ (k : ListLaws) (w : Sight) (c : Certificate) (number : ℕ) (test : List ℕ → Bool) (x : Step) (most : ℕ) (e : editor.State)
    (turned : ℕ → State → List Check) (go : Further) (left : State)
    (h : (inner : ℕ) → verdict_of (turned inner left) ≡ Accepted → (m : Present) → StandsFor left m.state →
    Inside test x most e m.state → (answers : List Answer) → RunsWell c (go m answers)) where
  listed-well : (cs : List Command) (states : List State) (inner : ℕ) (coming : State) → left_by_inner w cs states coming ≡ left → length states ≡ length cs →
      list_all verbs.is_listed cs ≡ true → (list_may_alter cs ≡ true → list_may_alter x.list ≡ true) →
      verdict_of (list_checks w number inner c.writes coming cs states turned) ≡ Accepted → (m : Present) →
      StandsFor coming m.state → Inside test x most e m.state → (answers : List Answer) → RunsWell c (listed cs m go answers)
  listed-well [] states inner coming is size all may a m st i answers =
      h inner (subst (λ (t : State). verdict_of (turned inner t) ≡ Accepted) is a) m (subst (λ (t : State). StandsFor t m.state) is st) i answers
  listed-well (d ∷ cs) [] inner coming is size all may a m st i answers = absurd (omega arith)
  listed-well (d ∷ cs) (s ∷ states) inner coming is size all may a m st i answers =
      let covered = first-holds (covers s coming) _ _ a in
      let met = first-holds (are_met d s) _ _ covered.1 in
      let paths = first-holds (are_listed c.writes d s) _ _ met.1 in
      let is_listed = (and_parts (verbs.is_listed d) (list_all verbs.is_listed cs) all).0 in
      let others = (and_parts (verbs.is_listed d) (list_all verbs.is_listed cs) all).1 in
      one-well k.single w c d s m (λ t. listed cs t go) answers met.0 paths.0 (covers-stands k.single s coming m.state covered.0 st)
      (λ q more leads stands.
      listed-well cs states (inner + 1) (left_by w d s) is (omega arith) others (λ l. may (or_right (may_alter d.verb) (list_may_alter cs) l))
      paths.1 q stands
      (leads-inside k test x most d is_listed (λ l. may (or_left (may_alter d.verb) (list_may_alter cs) l)) e m.state q.state leads i)
      more)

-- BY THE STATE IN WHICH THE LIST IS RUN ONCE, if there is one

-- the list's first state as it is told, and what is known after the last line
abbrev entry_by : Sight → Step → Looped → (once : Option State) → State
entry_by w x l once = told w (elim once as (λ _. State) [ None ↦ body_entry x.command.verb l.invariant | Some entry ↦ entry ])

abbrev after_by : Sight → Step → Looped → (once : Option State) → State
after_by w x l once = cond (is_some once) (left_by_inner w x.list l.inner (entry_by w x l once)) l.invariant

-- what is left after the list
abbrev after_list : (once : Bool) → (number : ℕ) → Looped → (later : List Check) → ℕ → State → List Check
after_list once number l later = λ inner turned. turn_checks once (inner_at number inner) l.invariant turned later

abbrev ListHolds : Sight → (writes : List (List ℕ)) → (number : ℕ) → Step → Looped → (later : List Check) → (once : Option State) → Type 0
ListHolds w writes number x l later once =
    verdict_of (list_checks w number 1 writes (entry_by w x l once) x.list l.inner (after_list (is_some once) number l later)) ≡ Accepted

-- what the lines with the flag pass
abbrev test_of : Sight → Step → List ℕ → Bool
test_of w x = is_taken_by (tested w.version x.command.verb)

-- a global command that began where the editor was in the state e, and what is left after it
module _ (k : ListLaws) (w : Sight) (c : Certificate) (number : ℕ) (x : Step) (s : State) (l : Looped) (e : editor.State)
    (before : StandsFor s e) (later : List Check) (size : length l.inner ≡ length x.list)
    (all : list_all verbs.is_listed x.list ≡ true) (go : Further) where
  -- it is over, where this state stands for the editor
  over-well : (left : State) (test : List ℕ → Bool) (most : ℕ) (m : Present) → GoesWell c w (told w (loop_end x s left)) go →
      StandsFor left m.state → Inside test x most e m.state → FlaggedPass passes_none m.state.lines → (answers : List Answer) →
      RunsWell c (go (with_state (closed m.state) m) answers)
  over-well left test most m h st i none answers =
      h (with_state (closed m.state) m)
      (told-stands w (loop_end x s left) (closed m.state) (k.over x s left e m.state i.here before st i.is i.before i.may))
      (over-unflagged w.version e m.state i.here i.is i.before none) answers

  -- the list is run for each line that is taken
  turns-well : ListHolds w c.writes number x l later None → GoesWell c w (told w (loop_end x s l.invariant)) go → (n : ℕ) (m : Present) →
      StandsFor l.invariant m.state → Inside (test_of w x) x n e m.state → (answers : List Answer) → RunsWell c (turns n x.list m go answers)
  turns-well accepted h zero m st i answers = over-well l.invariant (test_of w x) zero m h st i (none-left m.state.lines i.few) answers
  turns-well accepted h (suc n) m st i answers =
      (elim (next_taken m.state) as (λ o. next_taken m.state ≡ o →
      RunsWell c (turn o (λ f. listed x.list (with_state f m) (λ t. turns n x.list t go)) (go (with_state (closed m.state) m)) answers)) [
        | None ↦ λ is. over-well l.invariant (test_of w x) (suc n) m h st i (k.none m.state is) answers
        | Some f ↦ λ is.
            let entry : State = entry_by w x l None in
            let left : State = left_by_inner w x.list l.inner entry in
            listed-well k w c number (test_of w x) x n e (after_list false number l later) (λ t. turns n x.list t go) left
            (λ inner a q stands j more. turns-well accepted h n q
            (covers-stands k.single l.invariant left q.state (first-holds (covers l.invariant left) _ _ a).0 stands) j more)
            x.list l.inner 1 entry refl size all (λ z. z) accepted (with_state f m)
            (entry-stands w.version x.command.verb l.invariant f
            (k.turn (tested w.version x.command.verb) l.invariant m.state f st i.pass is))
            (taken-inside (test_of w x) x n e m.state f is i) answers
      ]) refl

  -- no line is left, however many turns there may be
  turned-well : (left : State) → GoesWell c w (told w (loop_end x s left)) go → (n most : ℕ) (m : Present) → StandsFor left m.state →
      Inside passes_none x most e m.state → (answers : List Answer) → RunsWell c (turns n x.list m go answers)
  turned-well left h zero most m st i answers = over-well left passes_none most m h st i i.pass answers
  turned-well left h (suc n) most m st i answers =
      (elim (next_taken m.state) as (λ o. next_taken m.state ≡ o →
      RunsWell c (turn o (λ f. listed x.list (with_state f m) (λ t. turns n x.list t go)) (go (with_state (closed m.state) m)) answers)) [
        | None ↦ λ is. over-well left passes_none most m h st i i.pass answers
        | Some f ↦ λ is. absurd (never-taken m.state f is i.pass)
      ]) refl

  -- the list is run for the line that is known to be taken
  once-well : (entry : State) → ListHolds w c.writes number x l later (Some entry) → GoesWell c w (told w (loop_end x s (after_by w x l (Some entry)))) go →
      (n : ℕ) (m : Present) (f : editor.State) → Inside (test_of w x) x n e m.state → next_taken m.state ≡ Some f → StandsFor entry f →
      FlaggedPass passes_none f.lines → (answers : List Answer) → RunsWell c (turns n x.list m go answers)
  once-well entry accepted h zero m f i is st none answers = absurd (never-taken m.state f is (none-left m.state.lines i.few))
  once-well entry accepted h (suc n) m f i is st none answers =
      let left : State = after_by w x l (Some entry) in
      let j : Inside (test_of w x) x n e f = taken-inside (test_of w x) x n e m.state f is i in
      subst (λ (o : Option editor.State).
      RunsWell c (turn o (λ f. listed x.list (with_state f m) (λ t. turns n x.list t go)) (go (with_state (closed m.state) m)) answers)) (sym is)
      (listed-well k w c number passes_none x n e (after_list true number l later) (λ t. turns n x.list t go) left
      (λ inner a q stands i more. turned-well left h n n q stands i more)
      x.list l.inner 1 (entry_by w x l (Some entry)) refl size all (λ z. z) accepted (with_state f m) (told-stands w entry f st)
      (record { here = j.here; is = j.is; before = j.before; may = j.may; pass = none; few = j.few }) answers)

-- only version 3 knows of a list that is run once, and there no line has the flag when a step begins
once-known : (v : Version) (c : Command) (invariant entry : State) (e : editor.State) → once_by v c invariant ≡ Some entry → IsUnflagged v e →
    (once_entry c invariant ≡ Some entry) × HasNoFlags e
once-known version.One c invariant entry e is none = absurd cc
once-known version.Two c invariant entry e is none = absurd cc
once-known version.Three c invariant entry e is none = (is, none)

-- its addresses, its lines' flags, and then its list for each of them
global-well : (k : ListLaws) (w : Sight) (c : Certificate) (number : ℕ) (x : Step) (s : State) (l : Looped) (m : Present) →
    StandsFor s m.state → IsUnflagged w.version m.state → is_global x.command.verb ≡ true → (later : List Check) →
    length l.inner ≡ length x.list → list_all verbs.is_listed x.list ≡ true → are_met x.command s ≡ true →
    are_listed c.writes x.command s ≡ true → covers l.invariant (left_by w x.command s) ≡ true → (once : Option State) →
    once_by w.version x.command l.invariant ≡ once → ListHolds w c.writes number x l later once →
    (go : Further) → GoesWell c w (told w (loop_end x s (after_by w x l once))) go → (answers : List Answer) →
    RunsWell c (one x.command m (λ t. global (kept m.state) x.list t go) answers)
global-well k w c number x s l m st none g later size all met paths covered once is_once accepted go h answers =
    let t : State = left_by w x.command s in
    let plain : State = plainly_left w x.command s in
    let open_in : editor.State → editor.State = λ (u : editor.State). opened (kept m.state) u in
    one-well k.single w c x.command s m (λ q. global (kept m.state) x.list q go) answers met paths st
    (λ q more leads stands.
    let begun : StandsFor plain (open_in q.state) =
    subst (λ (u : editor.State). StandsFor plain (open_in u)) leads.3
    (k.begun w.watch x.command s plain m.state leads.0 leads.1 (kept m.state) st (met-gives k.single.needs w x.command s met) leads.2) in
    let invariant : StandsFor l.invariant (open_in q.state) =
    covers-stands k.single l.invariant t (open_in q.state) covered (left-stands w x.command s (open_in q.state) begun) in
    let pass : FlaggedPass (test_of w x) q.state.lines =
    subst (λ (u : editor.State). FlaggedPass (test_of w x) u.lines) leads.3
    (first-taken k.taken w.version x.command m.state leads.0 leads.1 leads.2 g none) in
    let inside : Inside (test_of w x) x (flags q.state) m.state (open_in q.state) = record {
      here = record { before = kept m.state; altered = false };
      is = refl;
      before = refl;
      may = λ z. absurd cc;
      pass = pass;
      few = omega arith;
    } in
    (elim once as (λ o. once_by w.version x.command l.invariant ≡ o → ListHolds w c.writes number x l later o →
    GoesWell c w (told w (loop_end x s (after_by w x l o))) go → RunsWell c (turns (flags q.state) x.list (with_state (open_in q.state) q) go more)) [
      | None ↦ λ is a goes. turns-well k w c number x s l m.state st later size all go a goes (flags q.state) (with_state (open_in q.state) q) invariant inside more
      | Some entry ↦ λ is a goes.
          let known = once-known w.version x.command l.invariant entry m.state is none in
          let taken = k.once x.command l.invariant entry known.0 m.state leads.0 leads.1 (kept m.state) known.1 leads.2
          (subst (λ (u : editor.State). StandsFor l.invariant (open_in u)) (sym leads.3) invariant) in
          once-well k w c number x s l m.state st later size all go entry a goes (flags q.state) (with_state (open_in q.state) q) taken.0 inside
          (ap (λ (u : editor.State). next_taken (open_in u)) (sym leads.3) ∙ taken.1) taken.2 taken.3 more
    ]) is_once accepted h)

-- what the checks of a global command say, and those of its list together with those after it
pub record GlobalHolds (w : Sight) (c : Certificate) (number : ℕ) (x : Step) (s : State) (l : Looped) (coming : State)
    (later : List Check) : Type 0 where
  pub comes : covers s coming ≡ true
  pub met : are_met x.command s ≡ true
  pub paths : are_listed c.writes x.command s ≡ true
  pub covered : covers l.invariant (left_by w x.command s) ≡ true
  pub turns : ListHolds w c.writes number x l later (once_by w.version x.command l.invariant)

pub global-holds : (w : Sight) (c : Certificate) (number : ℕ) (x : Step) (s : State) (l : Looped) (coming : State)
    (later : List Check) →
    verdict_of (step_checks w number c.writes x (record { state = s; looped = Some l }) coming later) ≡ Accepted →
    GlobalHolds w c number x s l coming later
global-holds w c number x s l coming later h =
    let comes = first-holds (covers s coming) _ _ h in
    let met = first-holds (are_met x.command s) _ _ comes.1 in
    let paths = first-holds (are_listed c.writes x.command s) _ _ met.1 in
    let covered = first-holds (covers l.invariant (left_by w x.command s)) _ _ paths.1 in
    record { comes = comes.0; met = met.0; paths = paths.0; covered = covered.0; turns = covered.1 }

after-turn : (once : Bool) (p : Place) (invariant turned : State) (later : List Check) → verdict_of (turn_checks once p invariant turned later) ≡ Accepted →
    verdict_of later ≡ Accepted
after-turn true p invariant turned later h = h
after-turn false p invariant turned later h = (first-holds (covers invariant turned) _ _ h).1

-- those after it hold too
pub later-holds : (w : Sight) (c : Certificate) (number : ℕ) (x : Step) (s : State) (l : Looped) (coming : State) (later : List Check) →
    length l.inner ≡ length x.list → GlobalHolds w c number x s l coming later → verdict_of later ≡ Accepted
later-holds w c number x s l coming later size h =
    let once : Bool = runs_once w x l.invariant in
    let left = list-turned w number c.writes (after_list once number l later) x.list l.inner 1 (entry_of w x l.invariant) size h.turns in
    after-turn once (inner_at number left.0) l.invariant (left_by_inner w x.list l.inner (entry_of w x l.invariant)) later left.1

-- `g` and `v` are run with their list
global-step : (v : Verb) (x : Step) (m : Present) (go : Further) (answers : List Answer) → is_global v ≡ true →
    step_by v x m go answers ≡ one x.command m (λ t. global (kept m.state) x.list t go) answers
global-step (ed.Global sense pattern) x m go answers g = refl
global-step _ x m go answers g = absurd cc

-- of a list that fits something is known of each command
pub inner-sized : (global : Bool) (list : List Command) (l : Looped) → fits_list global list (Some l) ≡ true →
    length l.inner ≡ length list
inner-sized global list l fit = eqb-true _ _ (and_parts global (length l.inner == length list) fit).1

looped-goes-well : ListLaws → (w : Sight) (c : Certificate) (number : ℕ) (x : Step) (s : State) (looped : Option Looped)
    (coming : State) (later : List Check) (go : Further) → verbs.is_step x ≡ true →
    is_global x.command.verb ≡ true → fits_list (is_global x.command.verb) x.list looped ≡ true →
    verdict_of (step_checks w number c.writes x (record { state = s; looped = looped }) coming later) ≡ Accepted →
    GoesWell c w (left_after w looped x s) go → GoesWell c w coming (λ m. step x m go)
looped-goes-well k w c number x s None coming later go stands g fit h goes m st none answers =
    absurd (false≢true (sym (not-true (is_global x.command.verb) fit) ∙ g))
looped-goes-well k w c number x s (Some l) coming later go stands g fit h goes m st none answers =
    let holds = global-holds w c number x s l coming later h in
    let listed = (and_parts (not x.command.listed && verbs.marks_by_letter x.command.verb) (list_all verbs.is_listed x.list) stands).1 in
    subst (λ (p : Progress). RunsWell c p) (sym (global-step x.command.verb x m go answers g))
    (global-well k w c number x s l m (covers-stands k.single s coming m.state holds.comes st) none g later
    (inner-sized (is_global x.command.verb) x.list l fit) listed holds.met holds.paths holds.covered
    (once_by w.version x.command l.invariant) refl holds.turns go goes answers)

pub global-goes-well : ListLaws → GlobalGoesWell
global-goes-well k w c number x n coming later go stands g fit h goes =
    looped-goes-well k w c number x n.state n.looped coming later go stands g fit h goes
