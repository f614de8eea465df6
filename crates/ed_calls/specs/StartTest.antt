-- What a test of a start gives (our own division of the work).
use Rattle.std.specs.Prelude.{◌≡◌, ◌⊎◌, ℕ, Bool, not, List, [], find, Option, Some, None, IfSome}
use Rattle.std.specs.List.{list_any}
use Rattle.ed_syntax.specs.declared.request.Answer.{Answer}
use Rattle.ed_syntax.specs.declared.request.Answer.TheVariants as answer
use Rattle.ed_syntax.specs.meaning.Values.{matches}
use Rattle.ed_session.specs.Drives.{Log}
use Rattle.cert_check.specs.Certificates.{Certificate}
use Rattle.cert_check.specs.checker.Sound.{IsAllowed}
use Rattle.ed_calls.specs.Run.{StartsOutside, OnlyReads, reading}
use Rattle.ed_calls.specs.RunOver.{lines_told}

-- none of the lines matches a pattern
abbrev pub matches_none : (lines : List (List ℕ)) → (pattern : List ℕ) → Bool
matches_none lines pattern = not (list_any (matches pattern) lines)

-- the first of these patterns that none of the lines matches
abbrev pub first_unmatched : (patterns lines : List (List ℕ)) → Option (List ℕ)
first_unmatched patterns lines = find (matches_none lines) patterns

-- the same of the lines of a start, where they are known
abbrev pub unmatched_of : (patterns : List (List ℕ)) → (lines : Option (List (List ℕ))) → Option (List ℕ)
unmatched_of patterns None = None
unmatched_of patterns (Some lines) = first_unmatched patterns lines

-- the start is the certificate's, and its one read was answered so
pub record IsTheStart (c : Certificate) (path : Option (List ℕ)) (given : Answer) (log : Log) : Type 0 where
  pub named : path ≡ c.path
  pub read : log ≡ reading path given
  pub missing : path ≡ None → given ≡ answer.Missing
  pub allowed : IfSome (lines_told given) (IsAllowed c)

-- a start was tested: it is another, or it is the certificate's with this answer to its read
abbrev pub IsTested : Certificate → Option (List ℕ) → Log → Option Answer → Type 0
IsTested c path log None = StartsOutside c path log
IsTested c path log (Some given) = IsTheStart c path given log

-- there was no memory for the test, before the start was read or after
abbrev pub IsUntested : Certificate → Option (List ℕ) → Log → Type 0
IsUntested c path log = (log ≡ []) ⊎ OnlyReads c path log
