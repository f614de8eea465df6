-- How the analyser goes through the commands: what its own functions answer.
use Rattle.std.specs.Prelude.{◌≡◌, ◌<◌, ℕ, List, [], ◌∷◌, map, length, Bool, true, false, Option, Some, None, option_map, if◌then◌else◌}
use Rattle.std.specs.List.{All}
use Rattle.ed_base.specs.declared.fault.Fault.{Fault}
use Rattle.ed_syntax.specs.Commands.{Command, Step}
use Rattle.zones.specs.Limits.{IsZone}
use Rattle.ed_rules.specs.declared.state.Old.{Old}
use Rattle.ed_rules.specs.declared.state.State.{State}
use Rattle.ed_rules.specs.Choices.{Choice}
use Rattle.ed_rules.specs.facts.Facts.{Facts}
use Rattle.ed_rules.specs.Texts.{with_text}
use Rattle.ed_rules.specs.Formed.{TextsAreBytes}
use Rattle.cert_check.specs.declared.sight.Sight.{Sight}
use Rattle.cert_check.specs.checker.Covering.{covers}
use Rattle.cert_check.specs.checker.InForm.{HaveBytes}
use Rattle.cert_check.specs.declared.certificate.Looped.{Looped}
use Rattle.cert_check.specs.Certificates as plain
use Rattle.cert_check.specs.Certificates.{looped_value, note_value}
use Rattle.cert_check.specs.checker.Valid.{counted, has_quit, left_after, runs_once, entry_of}
use Rattle.analyser.specs.declared.rounds.Settled.{Settled}
use Rattle.analyser.specs.declared.walk.End.{End}
use Rattle.analyser.specs.declared.walk.End.TheVariants.{Leaves, Stops}
use Rattle.analyser.specs.declared.walk.Walk.{Walk}
use Rattle.analyser.specs.declared.walk.Outcome.{Outcome}
use Rattle.analyser.specs.declared.walk.Outcome.TheVariants.{Left, Fails}
use Rattle.analyser.specs.Rounds.{left_by_list, AreInner, InnerFail, turned, next_invariant, IsSettled}
use Rattle.analyser.specs.Following.{IsNote, NeedFails, AreNotes, NotesFail, result_from, paths_from}

-- the paths among choices, put in one after another
abbrev pub with_paths : List Choice → List (List ℕ) → List (List ℕ)
with_paths [] paths = paths
with_paths (None ∷ choices) paths = with_paths choices paths
with_paths (Some path ∷ choices) paths = with_paths choices (with_text path paths)

-- what is known before each command of a list, from a state on, up to the first one with a need that fails
abbrev pub AreKnown : Sight → List Command → State → List State → (failed : Option Fault) → Type 0
AreKnown w list s inner None = AreInner w list s inner
AreKnown w list s inner (Some why) = InnerFail w why list s inner

-- what a round of a list comes to, from a state on, and what it leaves where no need fails
abbrev pub IsRound : Sight → List Command → State → List State → (failed : Option Fault) → (left : State) → Type 0
IsRound w list s inner None t = AreInner w list s inner × (t ≡ left_by_list w list s)
IsRound w list s inner (Some why) t = InnerFail w why list s inner

-- the invariant of the round after one that comes to this, by whether its list is run once; there is none after the last round
abbrev pub invariant_after : (before : ℕ) → (once : Bool) → State → (failed : Option Fault) → (left : State) → Option State
invariant_after n true invariant failed t = None
invariant_after n false invariant (Some why) t = None
invariant_after n false invariant None t = if covers invariant t then None else Some (next_invariant n invariant t)

-- there are fewer facts of lines and of stretches than a word can count
abbrev pub AreCountable : Facts → Type 0
AreCountable facts = (length facts.lines < 18446744073709551616) × (length facts.clear < 18446744073709551616)

-- the zones of a state are zones, also the one that undo may bring back
abbrev pub OldIsZone : Option Old → Type 0
OldIsZone None = Unit {0}
OldIsZone (Some old) = IsZone old.zone × AreCountable old.facts

pub record HasZones (s : State) : Type 0 where
  pub zone : IsZone s.zone
  pub old : OldIsZone s.undo.was

-- what is known after the last line, by the last round: its invariant, or what the list leaves where it is run once
abbrev pub after_round : Sight → Step → (invariant : State) → State
after_round w x invariant = if runs_once w x invariant then turned w x invariant else invariant

-- what the last round of a global command comes to, and what is known after the last line where no need of the list fails
pub record IsLastRound (w : Sight) (x : Step) (first after : State) (r : Settled) : Type 0 where
  pub settled : IsSettled w x first r.invariant
  pub known : AreKnown w x.list (entry_of w x r.invariant) r.round.inner.items r.round.failed
  pub left : r.round.failed ≡ None → after ≡ after_round w x r.invariant

-- what is told of a list by its last round
abbrev pub looped_of : Settled → Looped
looped_of r = record { invariant = r.invariant; inner = r.round.inner }

-- what a command comes to, its list included, and its result where no need fails
abbrev pub IsTaken : Sight → Step → State → Option Looped → End → (left : State) → Type 0
IsTaken w x s l Leaves t = IsNote w x s (record { state = s; looped = option_map looped_value l }) × (t ≡ left_after w (option_map looped_value l) x s)
IsTaken w x s l (Stops inner why) t = NeedFails w inner why x s (option_map looped_value l)

-- what the counted ones of these commands come to, from a state on
abbrev pub IsOutcome : Sight → List Step → State → Walk → Outcome → Type 0
IsOutcome w steps s walk (Left t) =
    AreNotes w (counted steps) s (map note_value walk.notes.items)
    × (t ≡ result_from w (counted steps) s (map note_value walk.notes.items))
    × (walk.writes.items ≡ with_paths (paths_from (counted steps) (map note_value walk.notes.items)) [])
    × (walk.quit ≡ has_quit steps)
IsOutcome w steps s walk (Fails place why) =
    (place.command ≡ length walk.notes.items) × NotesFail w place.inner why (counted steps) s (map note_value walk.notes.items)

abbrev pub IsWalk : Sight → List Step → State → Walk → Type 0
IsWalk w steps s walk = IsOutcome w steps s walk walk.outcome

-- the texts of a command and of its list are bytes
abbrev pub StepIsBytes : Step → Type 0
StepIsBytes x = TextsAreBytes x.command × All TextsAreBytes x.list

-- the patterns of facts are bytes: those of an earlier buffer, of a state, of what is known of a list, and before a command
abbrev pub OldIsBytes : Option Old → Type 0
OldIsBytes None = Unit {0}
OldIsBytes (Some old) = HaveBytes old.facts

abbrev pub StateIsBytes : State → Type 0
StateIsBytes s = HaveBytes s.facts × OldIsBytes s.undo.was

abbrev pub LoopedIsBytes : Option plain.Looped → Type 0
LoopedIsBytes None = Unit {0}
LoopedIsBytes (Some l) = StateIsBytes l.invariant × All StateIsBytes l.inner

abbrev pub NoteIsBytes : plain.Note → Type 0
NoteIsBytes n = StateIsBytes n.state × LoopedIsBytes n.looped
