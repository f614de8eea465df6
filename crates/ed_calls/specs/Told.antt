-- What is told of certificates and scripts, as a line with the status that goes with it, and how the sink takes it (our choice of the texts).
use Rattle.std.specs.Prelude.{◌≡◌, ◌≢◌, ℕ, List, [], ◌∷◌, ◌++◌, Some, None, codes, decimal}
use Rattle.ed_base.specs.Fault.{status_of, text_of}
use Rattle.ed_base.specs.Lines.{newline}
use Rattle.ed_base.specs.declared.fault.Fault.{Fault}
use Rattle.ed_base.specs.declared.fault.Fault.TheVariants as fault
use Rattle.ed_session.specs.Sinks.{SinkChange, Took, TookFront, TookNothing, Failed}
use Rattle.cert_check.specs.declared.checker.verdict.Place.{Place}
use Rattle.cert_check.specs.declared.checker.verdict.Verdict.{Verdict}
use Rattle.cert_check.specs.declared.checker.verdict.Verdict.TheVariants.{Accepted, Refused}
use Rattle.cert_check.specs.text.Faults.{IsVersionFault, IsLineFault, IsSizeFault}
use Rattle.ed_calls.specs.declared.told.Origin.{Origin}
use Rattle.ed_calls.specs.declared.told.Origin.TheVariants.{Given, Made}
use Rattle.ed_calls.specs.declared.told.Told.{Told}

-- a command by its number, or by that and its number in the command's list
abbrev pub place_text : Place → List ℕ
place_text place = decimal place.command ++ (elim place.inner [ None ↦ [] | Some inner ↦ codes "." ++ decimal inner ])

abbrev pub line_told : List ℕ → (status : ℕ) → Told
line_told text status = record { output = text ++ newline ∷ []; status = status }

abbrev pub verdict_told : Verdict → Told
verdict_told Accepted = line_told (codes "accepted") 0
verdict_told (Refused place) = line_told (codes "refused: command " ++ place_text place) 1

abbrev pub cannot_told : Place → Fault → Told
cannot_told place why = line_told (codes "cannot: command " ++ place_text place ++ codes ": " ++ text_of why) 1

-- a start that isn't one of a certificate's, where that was given
abbrev pub outside_told : Told
outside_told = line_told (codes "start outside the certificate") 4

-- and where it was made for the run, so that nobody has seen it: nothing is told, and the status is one of its own
abbrev pub unfit_told : Told
unfit_told = record { output = []; status = 5 }

abbrev pub outside_of : Origin → Told
outside_of Given = outside_told
outside_of Made = unfit_told

-- what is told of bytes that are the text of no certificate
pub data IsUnread (bytes : List ℕ) (told : Told) : Type 0 where
  version : IsVersionFault bytes → told ≡ line_told (codes "certificate: version") 1 → IsUnread bytes told
  line : (number : ℕ) → IsLineFault number bytes → told ≡ line_told (codes "certificate: line " ++ decimal number) 1 → IsUnread bytes told
  size : IsSizeFault bytes → told ≡ line_told (codes "certificate: size") 1 → IsUnread bytes told

-- The program told this and ended with its status; or the sink failed midway; or there was no memory for what is to be told, and
-- nothing was.
pub data Tells (told : Told) (sink : SinkChange) (status : ℕ) : Type 0 where
  all : Took sink told.output → status ≡ told.status → Tells told sink status
  front : TookFront sink told.output → Failed sink → status ≡ status_of fault.Output → Tells told sink status
  untold : told.output ≢ [] → TookNothing sink → status ≡ status_of fault.Memory → Tells told sink status

-- it told one of these so, or there was no memory to find out which
pub data Says (Telling : Told → Type 0) (sink : SinkChange) (status : ℕ) : Type 0 where
  tells : (told : Told) → Telling told → Tells told sink status → Says Telling sink status
  nothing : TookNothing sink → status ≡ status_of fault.Memory → Says Telling sink status
