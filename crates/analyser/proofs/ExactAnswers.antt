-- The answer on an exact script foretells each run.
use Rattle.std.proofs.Common.{◌≡◌, inl, inr, ◌≤◌, ℕ, suc, ℤ, pos, true, false, List, [], ◌∷◌, length, Option, None, Some, option_map, Result, Ok, Err, refl, sym, ap, ◌∙◌, subst, arith}
use Rattle.std.proofs.lemmas.Int.{ints}
use Rattle.std.proofs.lemmas.Bool.{le-ltb}
use Rattle.std.proofs.lemmas.List.{length-map}
use Rattle.ed_base.specs.Buffer.{plain_line}
use Rattle.ed_base.specs.Lines.{lines_of}
use Rattle.ed_base.specs.declared.fault.Fault.{Fault}
use Rattle.zones.specs.Bound.{negative_of}
use Rattle.zones.specs.Known.{least, greatest}
use Rattle.zones.specs.Differences.{Fixes}
use Rattle.ed_syntax.specs.declared.options.Options.{Options}
use Rattle.ed_syntax.specs.declared.options.Ending.{Ending}
use Rattle.ed_syntax.specs.declared.request.Answer.{Answer}
use Rattle.ed_syntax.specs.declared.request.Answer.TheVariants as answer
use Rattle.ed_syntax.specs.Commands.{Step, Script}
use Rattle.ed_syntax.specs.meaning.States as editor
use Rattle.ed_syntax.specs.meaning.States.{opening}
use Rattle.ed_syntax.specs.meaning.Files.{loaded}
use Rattle.ed_syntax.specs.meaning.Progress.{Present, Stop, Waits, Ends, stop_of, ending}
use Rattle.ed_syntax.specs.meaning.Runs as runs
use Rattle.ed_syntax.specs.meaning.Runs.{run, steps, present, with_state}
use Rattle.ed_rules.specs.declared.state.State.{State}
use Rattle.ed_rules.specs.States as states
use Rattle.ed_rules.specs.Exact.{are_exact}
use Rattle.ed_rules.specs.LineBounds.{most_lines}
use Rattle.ed_rules.specs.ExactRules.{Tells, StartIsExact}
use Rattle.landmarks.specs.ChainValues.{ChainValue}
use Rattle.cert_check.specs.declared.certificate.Version.{Version}
use Rattle.cert_check.specs.declared.certificate.Version.TheVariants as version
use Rattle.cert_check.specs.declared.sight.Sight.{Sight}
use Rattle.cert_check.specs.declared.checker.verdict.Place.{Place}
use Rattle.cert_check.specs.Certificates.{certificate_value}
use Rattle.cert_check.specs.checker.Beginning.{landmarks_of, letters_of_chains, began}
use Rattle.cert_check.specs.checker.Sound.{start_lines}
use Rattle.analyser.specs.declared.analysis.Start.{Start}
use Rattle.analyser.specs.declared.analysis.Analysis.{Analysis}
use Rattle.analyser.specs.declared.analysis.Analysis.TheVariants.{Vouched, Cannot}
use Rattle.analyser.specs.Following.{version_of, chains_of_start, stated_of, sight_over, knowing, begun}
use Rattle.analyser.specs.Analysis.{low_of, high_of, IsAnswer}
use Rattle.analyser.specs.Exactness.{to_commands, IsExactRun, FailsAt, Foretells, IsExactAnswer}
use Rattle.analyser.proofs.ExactWalks.{walked, Falls, falls-walk, certified-walk, failed-walk}
use Rattle.analyser.proofs.ExactRuns.{Laws, AreDone, tells-told, prompted-stop, Decided, decided-fails, front_of, StaysFew, decided}
use Rattle.analyser.proofs.ExactPlaces.{stumbles}

-- THE BOUNDS OF THE END

told-most : (t : State) (s : editor.State) → Tells t s → greatest t.zone 2 0 ≡ Some (pos (length s.lines))
unfolding Fixes
told-most t s h = h.zone 2 0 (omega arith) (omega arith) refl refl ∙ ap (λ (n : ℤ). Some n) (omega (arith, ints))

told-least : (t : State) (s : editor.State) → Tells t s → least t.zone 2 0 ≡ Some (pos (length s.lines))
unfolding Fixes
told-least t s h = ap (λ (b : Option ℤ). negative_of b) (h.zone 0 2 (omega arith) (omega arith) refl refl) ∙ ap (λ (n : ℤ). Some n)
    (omega (arith, ints))

low-is : (n : ℕ) → n ≤ most_lines → low_of (Some (pos n)) ≡ n
low-is n h = omega arith

high-is : (n : ℕ) → n ≤ most_lines → high_of (Some (pos n)) ≡ Some n
high-is n h = rw (le-ltb most_lines n h) refl

-- THE START

-- A run that has begun: the editor in which its first command comes, and the answers that are left for its commands.
record Begins (xs : List Step) (s : State) (path : Option (List ℕ)) (o : Options) (answers : List Answer) : Type 0 where
  at : Present
  later : List Answer
  tells : Tells s at.state
  done : AreDone later
  enough : length xs ≤ length later
  few : StaysFew xs at later
  goes : (ys : List Step) (bad : Option ℕ) →
      stop_of (runs.start path (present o) (steps ys bad) answers) ≡ stop_of (steps ys bad at later)

-- each run from an editor that was just opened
module _ (begins : StartIsExact) (has : List (List ℕ)) (xs : List Step) where
  from-state : (path : Option (List ℕ)) (n : ℕ) (m : Present) (o : Options) (answers later : List Answer) → m.state.name ≡ path →
      length m.state.lines ≡ n → m.state.current ≡ n → m.state.changed ≡ false →
      AreDone later → length xs ≤ length later → StaysFew xs m later →
      ((ys : List Step) (bad : Option ℕ) →
      stop_of (runs.start path (present o) (steps ys bad) answers) ≡ stop_of (steps ys bad m later)) →
      Begins xs (states.start path n (Some n) has) path o answers
  from-state path n m o answers later name lines current flag done enough few goes =
      let much : length m.state.lines ≤ most_lines = few 0 (record { lines = length m.state.lines }) (prompted-stop m (ending m)) in
      record {
        at = m;
        later = later;
        tells = begins path n has m.state name lines current flag (omega arith);
        done = done;
        enough = enough;
        few = few;
        goes = goes;
      }

  from-start : (path : Option (List ℕ)) (n : ℕ) (o : Options) (answers : List Answer) → option_map length (start_lines path answers) ≡ Some n →
      AreDone (to_commands path answers) → length xs ≤ length (to_commands path answers) →
      ((i : ℕ) (e : Ending) → stop_of (runs.start path (present o) (steps (front_of i xs) None) answers) ≡ Ends (Ok e) →
      e.lines ≤ most_lines) →
      Begins xs (states.start path n (Some n) has) path o answers
  from-start None n o answers lines done enough few =
      let none : 0 ≡ n = cc in
      from-state None n (present o) o answers answers refl none none refl done enough few (λ ys bad. refl)
  from-start (Some path) n o [] lines done enough few = absurd cc
  from-start (Some path) n o (answer.Bytes bytes ∷ more) lines done enough few =
      let size : length (lines_of bytes) ≡ n = cc in
      let all : length (loaded bytes path opening).lines ≡ n = length-map (lines_of bytes) plain_line ∙ size in
      from-state (Some path) n (with_state (loaded bytes path opening) (present o)) o (answer.Bytes bytes ∷ more) more
      refl all all refl done enough few (λ ys bad. refl)
  from-start (Some path) n o (answer.Missing ∷ more) lines done enough few =
      let none : 0 ≡ n = cc in
      from-state (Some path) n (with_state (loaded [] path opening) (present o)) o (answer.Missing ∷ more) more
      refl none none refl done enough few (λ ys bad. refl)
  from-start (Some path) n o (answer.Refused ∷ more) lines done enough few = absurd cc
  from-start (Some path) n o (answer.Done ∷ more) lines done enough few = absurd cc

-- what is known where no chain is stated is what is known of any start
tells-began : (v : Version) (script : Script) (s : State) (e : editor.State) → Tells s e →
    Tells (began v (letters_of_chains script []) [] s) e
tells-began version.One script s e h = h
tells-began version.Two script s e h = h
tells-began version.Three script s e h =
    record { zone = h.zone; marks = h.marks; names = h.names; changed = h.changed; inside = h.inside; few = h.few }

tells-begun : (script : Script) (start : Start) (e : editor.State) → chains_of_start script start ≡ [] →
    Tells (states.start start.path start.min start.max (stated_of start.has)) e → Tells (begun script start) e
unfolding knowing
tells-begun script start e none h =
    let s : State = states.start start.path start.min start.max (stated_of start.has) in
    tells-told (sight_over script start) (knowing script start s) e
    (subst (λ (chains : List ChainValue). Tells (began (version_of script start) (letters_of_chains script (landmarks_of chains)) (landmarks_of chains) s) e)
    (sym none) (tells-began (version_of script start) script s e h))

run-begins : StartIsExact → (script : Script) (start : Start) (o : Options) (answers : List Answer) →
    IsExactRun script start o answers →
    Begins script.steps (begun script start) o.path o answers
run-begins begins script start o answers h =
    let few : (i : ℕ) (e : Ending) →
    stop_of (runs.start start.path (present o) (steps (front_of i script.steps) None) answers) ≡ Ends (Ok e) →
    e.lines ≤ most_lines = subst (λ (p : Option (List ℕ)). (i : ℕ) (e : Ending) → stop_of
    (runs.start p (present o) (steps (front_of i script.steps) None) answers) ≡ Ends (Ok e) → e.lines ≤ most_lines) h.path h.few in
    let from = from-start begins (stated_of start.has) script.steps start.path start.min o answers h.lines h.done h.enough few in
    let plain : State = states.start start.path start.min start.max (stated_of start.has) in
    let b : Begins script.steps plain o.path o answers =
    subst (λ (p : Option (List ℕ)). Begins script.steps plain p o answers) (sym h.path)
    (subst (λ (most : Option ℕ).
    Begins script.steps (states.start start.path start.min most (stated_of start.has)) start.path o answers) (sym h.one) from) in
    record {
      at = b.at;
      later = b.later;
      tells = tells-begun script start b.at.state h.unmarked b.tells;
      done = b.done;
      enough = b.enough;
      few = b.few;
      goes = b.goes;
    }

-- THE ANSWER

vouched : (low : ℕ) (high : Option ℕ) (t : State) (stop : Stop) → low ≡ low_of (least t.zone 2 0) → high ≡ high_of (greatest t.zone 2 0) →
    Decided (Ok t) stop →
    (e : Ending) × (stop ≡ Ends (Ok e)) × (low ≡ e.lines) × (high ≡ Some e.lines)
vouched low high t (Waits r) l h d = absurd d
vouched low high t (Ends (Err f)) l h d = absurd d
vouched low high t (Ends (Ok e)) l h d =
    let s = d.0 in
    let tells = d.1 in
    let few = tells.few in (
      e,
      refl,
      l ∙ ap (λ (b : Option ℤ). low_of b) (told-least t s tells) ∙ low-is (length s.lines) few ∙ sym d.2,
      h ∙ ap (λ (b : Option ℤ). high_of b) (told-most t s tells) ∙ high-is (length s.lines) few ∙ ap (λ (n : ℕ). Some n) (sym d.2),
    )

run-decided : Laws → (script : Script) (start : Start) (o : Options) (answers : List Answer) → are_exact script.steps ≡ true →
    Begins script.steps (begun script start) o.path o answers →
    Decided (walked (sight_over script start) script.steps script.fault (begun script start)) (stop_of (run script o answers))
run-decided k script start o answers e b =
    let w : Sight = sight_over script start in
    subst (λ (z : Stop). Decided (walked w script.steps script.fault (begun script start)) z) (sym (b.goes script.steps script.fault))
    (decided k w script.steps script.fault (begun script start) b.at b.later e b.tells b.done b.enough b.few)

fails-there : Laws → (script : Script) (start : Start) (o : Options) (answers : List Answer) (place : Place) (why : Fault) →
    are_exact script.steps ≡ true →
    Begins script.steps (begun script start) o.path o answers →
    (before : ℕ) → place ≡ record { command = suc before; inner = None } →
    Falls (sight_over script start) script.steps script.fault (begun script start) before why → FailsAt script o answers place why
fails-there k script start o answers place why e b before number falls =
    let s = stumbles k (sight_over script start) script.steps script.fault (begun script start) b.at b.later before why e
    b.tells b.done b.enough b.few falls in
    record {
      before = before;
      number = number;
      left = s.left;
      well = b.goes (front_of before script.steps) None ∙ s.well;
      fails = elim s.fails [
        | inl stops ↦ inl (b.goes (front_of (suc before) script.steps) None ∙ stops)
        | inr all ↦ inr all
      ];
    }

pub foretold : Laws → StartIsExact → (script : Script) (start : Start) (answer : Analysis) → IsAnswer script start answer →
    IsExactAnswer script start answer
foretold k begins script start (Vouched c) is o answers h =
    let d = subst (λ (r : Result State Fault). Decided r (stop_of (run script o answers)))
    (certified-walk k.needs script start (certificate_value c) h.exact is)
    (run-decided k script start o answers h.exact (run-begins begins script start o answers h)) in
    let v = vouched c.low c.high (certificate_value c).last (stop_of (run script o answers)) is.low is.high d in
    subst (λ (z : Stop). Foretells script o answers (Vouched c) z) (sym v.1) (v.2, v.3)
foretold k begins script start (Cannot place why notes) is o answers h =
    let b = run-begins begins script start o answers h in
    let f = failed-walk k.needs script start place why _ h.exact is in
    let d = subst (λ (r : Result State Fault). Decided r (stop_of (run script o answers)))
    (falls-walk (sight_over script start) script.steps script.fault (begun script start) f.0 why f.2)
    (run-decided k script start o answers h.exact b) in
    subst (λ (z : Stop). Foretells script o answers (Cannot place why notes) z)
    (sym (decided-fails why (stop_of (run script o answers)) d))
    (refl, fails-there k script start o answers place why h.exact b f.0 f.1 f.2)
