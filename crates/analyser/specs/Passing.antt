-- The walk that keeps no notes: what its own function answers.
use Rattle.std.specs.Prelude.{◌≡◌, ℕ, Bool, List, length}
use Rattle.ed_base.specs.declared.fault.Fault.{Fault}
use Rattle.ed_syntax.specs.Commands.{Step}
use Rattle.ed_rules.specs.declared.state.State.{State}
use Rattle.cert_check.specs.declared.sight.Sight.{Sight}
use Rattle.cert_check.specs.declared.checker.verdict.Place.{Place}
use Rattle.cert_check.specs.Certificates.{Note}
use Rattle.cert_check.specs.checker.Valid.{counted, has_quit}
use Rattle.analyser.specs.declared.passing.Passage.{Passage}
use Rattle.analyser.specs.declared.walk.Outcome.{Outcome}
use Rattle.analyser.specs.declared.walk.Outcome.TheVariants.{Left, Fails}
use Rattle.analyser.specs.Following.{AreNotes, NotesFail, result_from}

-- So many commands leave this state, as their notes show.
pub record Passes (w : Sight) (steps : List Step) (s : State) (count : ℕ) (quit : Bool) (t : State) : Type 0 where
  pub notes : List Note
  pub noted : AreNotes w (counted steps) s notes
  pub result : t ≡ result_from w (counted steps) s notes
  pub size : count ≡ length notes
  pub ends : quit ≡ has_quit steps

-- The first need that fails is that of the command of this number, as the notes up to it show.
pub record Stops (w : Sight) (steps : List Step) (s : State) (place : Place) (why : Fault) : Type 0 where
  pub notes : List Note
  pub number : place.command ≡ length notes
  pub fails : NotesFail w place.inner why (counted steps) s notes

-- what the counted ones of these commands come to, from a state on
abbrev pub IsPassed : Sight → List Step → State → (count : ℕ) → (quit : Bool) → Outcome → Type 0
IsPassed w steps s count quit (Left t) = Passes w steps s count quit t
IsPassed w steps s count quit (Fails place why) = Stops w steps s place why

abbrev pub IsPassage : Sight → List Step → State → Passage → Type 0
IsPassage w steps s passage = IsPassed w steps s passage.count passage.quit passage.outcome
