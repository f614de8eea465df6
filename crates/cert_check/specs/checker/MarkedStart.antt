-- Starts whose lines are marked by letters that the script doesn't name: what is known of these lines may be said by the marks.
use Rattle.std.specs.Prelude.{◌≡◌, ◌<◌, ℕ, ◌+◌, pos, Bool, true, List, map, length, get_or, All, IsTrue, IsFalse}
use Rattle.std.specs.List.{list_all}
use Rattle.zones.specs.Name.{mark}
use Rattle.zones.specs.Name as name
use Rattle.zones.specs.Zone.{Bounds, Numbers, Holds}
use Rattle.ed_base.specs.Buffer.{plain_line}
use Rattle.ed_base.specs.Lines.{lines_of}
use Rattle.ed_syntax.specs.Commands.{Script}
use Rattle.ed_syntax.specs.meaning.Erasure.{Marks, letters_of, marked, AreApart, steps_name}
use Rattle.ed_syntax.specs.meaning.States as editor
use Rattle.ed_syntax.specs.meaning.Verbs.{is_step}
use Rattle.ed_rules.specs.Choices.{Choice}
use Rattle.ed_rules.specs.Marks.{is_sure}
use Rattle.ed_rules.specs.declared.state.State.{State}
use Rattle.ed_rules.specs.StandsFor.{StandsFor}
use Rattle.ed_rules.specs.facts.Facts.{Facts, FactsHold}
use Rattle.cert_check.specs.declared.checker.verdict.Verdict.TheVariants.{Accepted}
use Rattle.cert_check.specs.declared.sight.Sight.{Sight}
use Rattle.cert_check.specs.Certificates.{Certificate}
use Rattle.cert_check.specs.checker.Opening.{opened}
use Rattle.cert_check.specs.checker.Sound.{IsAllowed, CannotFail}
use Rattle.cert_check.specs.checker.Valid.{verdict_of, counted, has_quit, end_checks, checks_from, are_shaped}

-- an editor that was just opened over a file of these bytes, on whose lines these marks are set
abbrev pub opened_with : Marks → (path : Choice) → (bytes : List ℕ) → editor.State
opened_with marks path bytes = record (opened path bytes) { lines = marked marks (map plain_line (lines_of bytes)) }

-- Where a state stands for each allowed file with marks of letters that the script doesn't name, and all checks from that state on are
-- accepted, the script can't fail, though its real runs begin without these marks.
abbrev pub MarkedStartsSuffice : Type 0
MarkedStartsSuffice = (w : Sight) (script : Script) (c : Certificate) (first : State) →
    IsTrue (list_all is_step script.steps) →
    IsTrue (are_shaped (counted script.steps) c.notes) →
    verdict_of (checks_from w c.writes (end_checks (has_quit script.steps) script.fault c) 1 first (counted script.steps) c.notes) ≡ Accepted →
    ((bytes : List ℕ) → IsAllowed c (lines_of bytes) →
    (marks : Marks) × IsFalse (steps_name (letters_of marks) script.steps) × StandsFor first (opened_with marks c.path bytes)) →
    CannotFail script c

-- the numbers are those of a file's lines with these marks: each sure letter is one of the marks, and its number is that mark's line
pub record NumberedBy (marks : Marks) (bytes : List ℕ) (sure : List Bool) (number : Numbers) : Type 0 where
  pub zero_is : number name.zero ≡ pos 0
  pub current_is : number name.current_line ≡ pos (length (lines_of bytes))
  pub last_is : number name.last_line ≡ pos (length (lines_of bytes))
  pub marks_are : (letter : ℕ) → letter < 26 → is_sure sure letter ≡ true → (index : ℕ) × (index < length marks)
      × ((get_or marks index (0, 0)).0 ≡ letter) × (number (mark letter) ≡ pos ((get_or marks index (0, 0)).1 + 1))

-- A start that stands for a file's lines stands for them with marks on them once it knows of the marks: its zone, and what it knows of
-- single lines, have to hold of their numbers.
abbrev pub MarkedStartsStand : Type 0
MarkedStartsStand = (s : State) (zone : Bounds) (sure : List Bool) (facts : Facts) (marks : Marks) (path : Choice) (bytes : List ℕ)
    (number : Numbers) →
    StandsFor s (opened path bytes) → AreApart marks → All (λ one. (one.0 < 26) × (one.1 < length (lines_of bytes))) marks →
    NumberedBy marks bytes sure number → Holds zone number → FactsHold facts number (map plain_line (lines_of bytes)) →
    StandsFor (record s { zone = zone; marks = sure; facts = facts }) (opened_with marks path bytes)
