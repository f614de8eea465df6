-- Soundness of the start: what the rules begin with stands for an editor with a file of that many lines, some of which match its patterns.
use Rattle.std.specs.Prelude.{◌≡◌, ℕ, true, List, map, length, Option}
use Rattle.std.specs.List.{list_all, list_any}
use Rattle.ed_base.specs.Buffer.{plain_line}
use Rattle.ed_base.specs.Lines.{lines_of}
use Rattle.ed_syntax.specs.meaning.States as editor
use Rattle.ed_syntax.specs.meaning.States.{opening}
use Rattle.ed_syntax.specs.meaning.Values.{matches}
use Rattle.ed_rules.specs.Choices.{Choice}
use Rattle.ed_rules.specs.States.{start}
use Rattle.ed_rules.specs.LineBounds.{IsWithin}
use Rattle.ed_rules.specs.StandsFor.{StandsFor}

-- an editor that was just opened over a file of these bytes, with this path remembered
abbrev pub opened : (path : Choice) → (bytes : List ℕ) → editor.State
opened path bytes = let lines = map plain_line (lines_of bytes) in record opening { lines = lines; current = length lines; name = path }

-- each of these patterns has a line that matches it
abbrev pub Match : (patterns : List (List ℕ)) → (lines : List (List ℕ)) → Type 0
Match patterns lines = list_all (λ text. list_any (matches text) lines) patterns ≡ true

-- the start stands for each editor that was opened over a file of as many lines as it allows, some of which match its patterns
abbrev pub StartIsSound : Type 0
StartIsSound = (path : Choice) (min : ℕ) (max : Option ℕ) (has : List (List ℕ)) (bytes : List ℕ) → IsWithin min max (length (lines_of bytes)) →
    Match has (lines_of bytes) → StandsFor (start path min max has) (opened path bytes)
