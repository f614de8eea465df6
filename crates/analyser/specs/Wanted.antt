-- Patterns that a start has to state, as a script alone shows.
use Rattle.std.specs.Prelude.{ℕ, Bool, false, not, ◌&&◌, ◌||◌, List, [], ◌∷◌, Some, nat_eq}
use Rattle.std.specs.List.{list_any}
use Rattle.std.specs.Cmp.Lexicographic.{pointwise}
use Rattle.ed_syntax.specs.Commands as ed
use Rattle.ed_syntax.specs.Commands.{Base, Addresses, Without, One, Comma, Semicolon, Step}
use Rattle.ed_syntax.specs.meaning.Values.{matches}
use Rattle.ed_syntax.specs.meaning.Verbs as verbs
use Rattle.ed_syntax.specs.meaning.Verbs.{Alteration, takes, is_global}

-- an address searches for this pattern, which it is given
abbrev pub seeks_at : (text : List ℕ) → Base → Bool
seeks_at text (ed.Forward (Some given)) = pointwise nat_eq given text
seeks_at text (ed.Backward (Some given)) = pointwise nat_eq given text
seeks_at text _ = false

-- the first one of a command does
abbrev pub seeks_first : (text : List ℕ) → Addresses → Bool
seeks_first text Without = false
seeks_first text (One a) = seeks_at text a.base
seeks_first text (Comma a b) = seeks_at text a.base
seeks_first text (Semicolon a b) = seeks_at text a.base

-- a line that is entered matches the pattern
abbrev pub enters_match : (text : List ℕ) → Alteration → Bool
enters_match text (verbs.Enters lines) = list_any (matches text) lines
enters_match text (verbs.Replaces lines) = list_any (matches text) lines
enters_match text _ = false

-- a command may be passed over: it has no list, and enters no line that matches
abbrev pub brings_none : (text : List ℕ) → Step → Bool
brings_none text x = not (is_global x.command.verb) && not (enters_match text (takes x.command.verb).lines)

-- A command searches for the pattern, and none before it may bring a line that matches.
abbrev pub seeks : (text : List ℕ) → List Step → Bool
seeks text [] = false
seeks text (x ∷ xs) = seeks_first text x.command.addresses || (brings_none text x && seeks text xs)
