-- Which refusals are told of a script, one after another (our own).
use Rattle.std.specs.Prelude.{◌≡◌, ◌<◌, ◌-◌, ◌⊎◌, ℕ, List, [], ◌∷◌, ◌++◌, Option, None, map, length, take, drop, All, Any}
use Rattle.ed_syntax.specs.Commands.{Script}
use Rattle.ed_syntax.specs.Changed.{IsChangedAt, IsReadFurther}
use Rattle.ed_syntax.specs.reading.Reading.{script_of}
use Rattle.cert_check.specs.declared.checker.verdict.Place.{Place}
use Rattle.cert_check.specs.Certificates.{note_value}
use Rattle.analyser.specs.declared.analysis.Start.{Start}
use Rattle.analyser.specs.Analysis.{IsFailure}
use Rattle.hints.specs.declared.hint.Hint.{Hint}
use Rattle.hints.specs.declared.refusing.Refusal.{Refusal}
use Rattle.hints.specs.declared.refusing.Rest.{Rest}
use Rattle.hints.specs.declared.refusing.Rest.TheVariants as rest
use Rattle.hints.specs.Passing.{IsVouched, MoreLinesHelp}
use Rattle.hints.specs.Allowing.{StaysSuited}
use Rattle.hints.specs.Hints.{IsTried, AsksForMore, IsStated}

-- A refusal is the first need that fails of its script over its start. Its hints were tried. Where a file is at hand that the start allows, the
-- start of each hint allows it too. Where none is, one of them asks for more lines, and one states the patterns to state, where that helps.
pub record IsRefusal (file : Option (List ℕ)) (r : Refusal) : Type 0 where
  pub fails : IsFailure (script_of r.script) r.start r.place r.why (map note_value r.notes.items)
  pub tried : All (IsTried r.script r.start r.place) r.hints.items
  pub suited : All (λ h. StaysSuited file r.start h.start) r.hints.items
  pub asks : file ≡ None → MoreLinesHelp (script_of r.script) r.start → Any (AsksForMore r.script r.start) r.hints.items
  pub states : file ≡ None → IsStated r.script r.start r.place r.why (map note_value r.notes.items) r.hints.items

-- The command at a place is taken away, and all others are the same. Or it is the one that can't be read: all before it are the same, and
-- others may be read after them.
abbrev pub IsTakenAway : Place → Script → Script → Type 0
IsTakenAway place old new = IsChangedAt (place.command - 1) 1 0 old new ⊎ ((place.command - 1 ≡ length old.steps) × IsReadFurther old new)

-- The command at a place is passed over: the script without some bytes of one stretch has all commands but that one.
pub record IsPassedOver (place : Place) (old new : List ℕ) : Type 0 where
  pub low : ℕ
  pub high : ℕ
  pub without : new ≡ take low old ++ drop high old
  pub fewer : length new < length old
  pub taken : IsTakenAway place (script_of old) (script_of new)

-- What is looked at after a refusal: the script and the start as its first hint has them. Where it has none its command is passed over.
pub data GoesOnWith (r : Refusal) (now : List ℕ) (then : Start) : Type 0 where
  hinted : (h : Hint) (hs : List Hint) → r.hints.items ≡ h ∷ hs → now ≡ h.script → then ≡ h.start → GoesOnWith r now then
  passed : r.hints.items ≡ [] → IsPassedOver r.place r.script now → then ≡ r.start → GoesOnWith r now then

-- Refusals one after another, and what script and start are looked at after them. The first is one of this script over this start, each later
-- one of what is looked at after the one before it.
pub data AreInTurn (file : Option (List ℕ)) (script : List ℕ) (start : Start) : (told : List Refusal) → (now : List ℕ) → (then : Start) → Type 0 where
  none : AreInTurn file script start [] script start
  more : (told : List Refusal) (r : Refusal) (now : List ℕ) (then : Start) → AreInTurn file script start told r.script r.start → IsRefusal file r →
      GoesOnWith r now then → AreInTurn file script start (told ++ r ∷ []) now then

-- at most so many refusals are told of one script
abbrev pub most_refusals : ℕ
most_refusals = 10

-- The refusals that are told of a script over a start, and what comes after them: what is looked at then is vouched for, or it isn't looked at,
-- since the last one has no hint, or since they are as many as are told.
pub data AreRefusals (file : Option (List ℕ)) (script : List ℕ) (start : Start) : List Refusal → Rest → Type 0 where
  vouched : (told : List Refusal) (now : List ℕ) (then : Start) → AreInTurn file script start told now then → IsVouched (script_of now) then →
      AreRefusals file script start told rest.Vouched
  stopped : (told : List Refusal) (r : Refusal) → AreInTurn file script start told r.script r.start → IsRefusal file r → r.hints.items ≡ [] →
      AreRefusals file script start (told ++ r ∷ []) rest.Unmended
  cut : (told : List Refusal) (now : List ℕ) (then : Start) → AreInTurn file script start told now then → length told ≡ most_refusals →
      AreRefusals file script start told rest.Cut
