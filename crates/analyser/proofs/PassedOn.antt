-- The walk that keeps no notes, one command further: there are notes that it might have kept.
use Rattle.std.proofs.Common.{◌≡◌, ◌<◌, ◌+◌, ℕ, Bool, List, [], ◌∷◌, ◌++◌, length, get_or, Option, option_map, Some, None, inl, inr, refl, sym, ap, ◌∙◌, subst, arith}
use Rattle.std.proofs.lemmas.List.{length_push}
use Rattle.ed_base.specs.declared.fault.Fault.{Fault}
use Rattle.zones.specs.Name as name
use Rattle.zones.specs.Name.{last_line}
use Rattle.zones.specs.Known.{least, greatest}
use Rattle.ed_syntax.specs.declared.command.Command.{Command}
use Rattle.ed_syntax.specs.Commands.{Step, Script}
use Rattle.ed_syntax.specs.PublicTypes.{step_value, steps_value}
use Rattle.ed_rules.specs.declared.state.State.{State}
use Rattle.cert_check.specs.declared.certificate.Looped as looped
use Rattle.cert_check.specs.Certificates.{Looped, Note, Certificate, looped_value}
use Rattle.cert_check.specs.checker.Valid.{has_quit, counted}
use Rattle.cert_check.specs.declared.sight.Sight.{Sight}
use Rattle.cert_check.specs.declared.checker.verdict.Place.{Place}
use Rattle.analyser.specs.declared.analysis.Start.{Start}
use Rattle.analyser.specs.declared.walk.End.{End}
use Rattle.analyser.specs.declared.walk.End.TheVariants.{Leaves, Stops}
use Rattle.analyser.specs.declared.walk.Outcome.TheVariants.{Left, Fails}
use Rattle.analyser.specs.declared.passing.Passage.{Passage}
use Rattle.analyser.specs.Following.{paths_from, sight_over, begun, end_fault, version_of, chains_of_start, stated_of}
use Rattle.analyser.specs.Analysis.{low_of, high_of}
use Rattle.analyser.specs.Judged.{IsVouched, FailsBy}
use Rattle.analyser.specs.Walking.{with_paths, IsTaken}
use Rattle.analyser.specs.Passing.{Passes, IsPassage}
use Rattle.analyser.specs.Passing as passing
use Rattle.analyser.proofs.Listing.{listed-by}
use Rattle.analyser.proofs.Going.{Going, going-start, going-on, going-off, gone, noted, taken_paths, counted_from, counted-here, later}

-- what is known of all commands, by what is known of those that are left, with some notes
pub record Passing (w : Sight) (all : List Step) (start : State) (number : ℕ) (coming : State) (left : List Step) : Type 0 where
  pub notes : List Note
  pub writes : List (List ℕ)
  pub going : Going w all start number notes writes coming left

pub passing-start : (w : Sight) (all : List Step) (start coming : State) → coming ≡ start → Passing w all start 0 coming all
passing-start w all start coming same = record {
  notes = [];
  writes = [];
  going = subst (λ (s : State). Going w all start 0 [] [] s all) (sym same) (going-start w all start);
}

abbrev known_of : Option looped.Looped → Option Looped
known_of l = option_map looped_value l

-- a command whose needs hold, whose result comes in at the next one
pub pass-on : (w : Sight) (commands : List Command) (start : State) (i : ℕ) (d : Command) (l : Option looped.Looped) (s t next : State) (end : End) →
    i < length commands → d ≡ get_or commands i d → IsTaken w (step_value d) s l end t → end ≡ Leaves → next ≡ t →
    Passing w (counted_from commands 0) start i s (counted_from commands i) →
    Passing w (counted_from commands 0) start (i + 1) next (later commands i d)
pass-on w commands start i d l s t next end bound is taken e same p =
    let all : List Step = counted_from commands 0 in
    let here = subst (λ (xs : List Step). Going w all start i p.notes p.writes s xs) (counted-here commands i d bound is) p.going in
    let left = subst (λ (r : End). IsTaken w (step_value d) s l r t) e taken in
    record {
      notes = p.notes ++ noted s (known_of l) ∷ [];
      writes = with_paths (taken_paths (step_value d) s (known_of l)) p.writes;
      going = going-on w all start i p.notes p.writes s next (known_of l) (step_value d) (later commands i d) left.0 (same ∙ left.1) here;
    }

-- one with a need that fails
pub pass-off : (w : Sight) (commands : List Command) (start : State) (i : ℕ) (d : Command) (l : Option looped.Looped) (s t : State) (end : End)
    (inner : Option ℕ) (why : Fault) (place : Place) (passage : Passage) → i < length commands → d ≡ get_or commands i d →
    IsTaken w (step_value d) s l end t → end ≡ Stops inner why → Passing w (counted_from commands 0) start i s (counted_from commands i) →
    place ≡ record { command = i + 1; inner = inner } → passage.outcome ≡ Fails place why → IsPassage w (steps_value commands) start passage
pass-off w commands start i d l s t end inner why place passage bound is taken e p at outcome =
    let all : List Step = counted_from commands 0 in
    let n : Note = noted s (known_of l) in
    let here = subst (λ (xs : List Step). Going w all start i p.notes p.writes s xs) (counted-here commands i d bound is) p.going in
    let fails = subst (λ (r : End). IsTaken w (step_value d) s l r t) e taken in
    let off = going-off w all start i p.notes p.writes s (known_of l) inner why (step_value d) (later commands i d) fails here in
    let size : length p.notes ≡ i = p.going.size in
    let longer : length (p.notes ++ n ∷ []) ≡ length p.notes + 1 = length_push p.notes n in
    let stops : passing.Stops w (steps_value commands) start (record { command = i + 1; inner = inner }) why =
    record { notes = p.notes ++ n ∷ []; number = omega arith; fails = off } in
    rw outcome (subst (λ (q : Place). passing.Stops w (steps_value commands) start q why) (sym at) stops)

-- no command is left
pub pass-end : (w : Sight) (commands : List Command) (start : State) (i : ℕ) (s : State) (left : List Step) (passage : Passage) →
    Passing w (counted_from commands 0) start i s left → left ≡ [] → passage.outcome ≡ Left s → passage.count ≡ i →
    passage.quit ≡ has_quit (steps_value commands) → IsPassage w (steps_value commands) start passage
pass-end w commands start i s left passage p none outcome count quit =
    let all : List Step = counted_from commands 0 in
    let end = gone w all start i p.notes p.writes s (subst (λ (xs : List Step). Going w all start i p.notes p.writes s xs) none p.going) in
    let passes : Passes w (steps_value commands) start passage.count passage.quit s = record {
      notes = p.notes;
      noted = end.noted;
      result = end.result;
      size = count ∙ sym p.going.size;
      ends = quit;
    } in
    rw outcome passes

-- by another name of what it goes from
pub passed-from : (w v : Sight) (commands others : List Command) (start begun : State) (passage : Passage) → w ≡ v → commands ≡ others →
    start ≡ begun → IsPassage w (steps_value commands) start passage → IsPassage v (steps_value others) begun passage
passed-from w v commands others start begun passage sight same begins h =
    subst (λ (u : Sight). IsPassage u (steps_value others) begun passage) sight
    (subst (λ (s : State). IsPassage w (steps_value others) s passage) begins
    (subst (λ (cs : List Command). IsPassage w (steps_value cs) start passage) same h))

-- THE JUDGEMENT, by what the commands came to

-- with no fault at the end there is a certificate
pub vouched-by : (script : Script) (start : Start) (count : ℕ) (quit : Bool) (last : State) (o : Option Fault) →
    Passes (sight_over script start) script.steps (begun script start) count quit last → o ≡ end_fault quit script.fault last → o ≡ None →
    IsVouched script start
vouched-by script start count quit last o p is none =
    let w = sight_over script start in
    let paths = paths_from (counted script.steps) p.notes in
    let ends : end_fault (has_quit script.steps) script.fault last ≡ None =
    sym (is ∙ ap (λ (b : Bool). end_fault b script.fault last) p.ends) ∙ none in
    let c : Certificate = record {
      version = version_of script start;
      path = start.path;
      min = start.min;
      max = start.max;
      has = stated_of start.has;
      landmarks = chains_of_start script start;
      notes = p.notes;
      last = last;
      low = low_of (least last.zone last_line name.zero);
      high = high_of (greatest last.zone last_line name.zero);
      writes = with_paths paths [];
    } in (
      c,
      record {
        version = refl;
        path = refl;
        min = refl;
        max = refl;
        has = refl;
        landmarks = refl;
        notes = p.noted;
        last = p.result;
        end = ends;
        low = refl;
        high = refl;
        writes = listed-by paths (with_paths paths []) refl;
      },
    )

-- a fault of a command
pub fails-by : (script : Script) (start : Start) (place : Place) (why : Fault) →
    passing.Stops (sight_over script start) script.steps (begun script start) place why → FailsBy script start place why
fails-by script start place why s = (s.notes, inl (record { number = s.number; fails = s.fails }))

-- a fault at the end
pub fails-at_end : (script : Script) (start : Start) (count : ℕ) (quit : Bool) (last : State) (o : Option Fault) (place : Place) (why : Fault) →
    Passes (sight_over script start) script.steps (begun script start) count quit last → o ≡ end_fault quit script.fault last → o ≡ Some why →
    place ≡ record { command = count + 1; inner = None } → FailsBy script start place why
fails-at_end script start count quit last o place why p is some at =
    let w = sight_over script start in
    let ends : end_fault (has_quit script.steps) script.fault last ≡ Some why =
    sym (is ∙ ap (λ (b : Bool). end_fault b script.fault last) p.ends) ∙ some in (
      p.notes,
      inr (record {
        at_end = at ∙ ap (λ n. let q : Place = record { command = n + 1; inner = None } in q) p.size;
        noted = p.noted;
        fails = subst (λ (s : State). end_fault (has_quit script.steps) script.fault s ≡ Some why) p.result ends;
      }),
    )
