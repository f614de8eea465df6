-- How the reader comes to the list of a global command.
use Rattle.std.specs.Prelude.{ℕ, true, false, List, [], ◌∷◌, drop, Option, Some, None}
use Rattle.ed_syntax.specs.spelling.Characters.{is_delimiter}
use Rattle.ed_syntax.specs.reading.Tokens.{◌>>=◌, addresses, pattern_at}
use Rattle.ed_syntax.specs.reading.ReadGlobals.{sense_at}

-- what stands after a pattern between delimiters
abbrev pub after_pattern : List ℕ → Option (List ℕ)
after_pattern [] = None
after_pattern (b ∷ bs) = elim (is_delimiter b) [ true ↦ pattern_at b bs >>= λ q. Some (drop 1 q.1) | false ↦ None ]

-- what stands on a global command's line after its pattern
abbrev pub list_start : List ℕ → Option (List ℕ)
list_start line = addresses line >>= λ a. sense_at a.1 >>= λ g. after_pattern g.1
