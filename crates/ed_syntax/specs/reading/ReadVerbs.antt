-- How the reader takes a command's letter apart, with parameters on its own line (XCU ed, "Commands in ed").
use Rattle.std.specs.Prelude.{ℕ, true, false, List, [], ◌∷◌, Option, Some, None, nat_eq}
use Rattle.ed_syntax.specs.Commands as ed
use Rattle.ed_syntax.specs.Commands.{Address, Verb}
use Rattle.ed_syntax.specs.spelling.Characters.{exclamation_mark, is_blank, after_blanks}
use Rattle.ed_syntax.specs.spelling.Letters.{letter_k, letter_m, letter_t}
use Rattle.ed_syntax.specs.spelling.CommandLetters.{plain_verbs, file_verbs}
use Rattle.ed_syntax.specs.reading.Tokens.{Parsed, ◌>>=◌, letter, address}

-- the verb beside this letter
abbrev pub beside_letter : ℕ → List (ℕ × Verb) → Option Verb
beside_letter b [] = None
beside_letter b (entry ∷ entries) = elim (nat_eq b entry.0) [ true ↦ Some entry.1 | false ↦ beside_letter b entries ]

-- a name, which doesn't begin with `!`; nothing is no name
abbrev pub name_of : List ℕ → Option (Option (List ℕ))
name_of [] = Some None
name_of (b ∷ bs) = elim (nat_eq b exclamation_mark) [ true ↦ None | false ↦ Some (Some (b ∷ bs)) ]

-- a path, up to the line's end
abbrev pub path_at : List ℕ → Option (Option (List ℕ))
path_at [] = Some None
path_at (b ∷ bs) = elim (is_blank b) [ true ↦ name_of (after_blanks bs) | false ↦ None ]

-- the command on files beside this letter, with its path
abbrev pub file_verb : (letter : ℕ) → List ℕ → Parsed Verb
file_verb b bs = path_at bs >>= λ path. beside_letter b (file_verbs path) >>= λ verb. Some (verb, [])

-- a letter without parameters on its line, or with a path
abbrev pub lettered : (letter : ℕ) → List ℕ → Parsed Verb
lettered b bs = elim (beside_letter b plain_verbs) [ Some verb ↦ Some (verb, bs) | None ↦ file_verb b bs ]

-- a target with blanks before it
abbrev pub target : List ℕ → Parsed Address
target bs = address (after_blanks bs) >>= λ r. r.0 >>= λ a. Some (a, r.1)

-- a command's letter with parameters that stand on its own line, before its text is read; nothing is the null command
abbrev pub verb_at : List ℕ → Parsed Verb
verb_at [] = Some (ed.Null, [])
verb_at (b ∷ bs) =
    elim (nat_eq b letter_k) [
      | true ↦ letter bs >>= λ r. Some (ed.Mark r.0, r.1)
      | false ↦ elim (nat_eq b letter_m) [
        | true ↦ target bs >>= λ r. Some (ed.Move r.0, r.1)
        | false ↦ elim (nat_eq b letter_t) [
          | true ↦ target bs >>= λ r. Some (ed.Copy r.0, r.1)
          | false ↦ lettered b bs
        ]
      ]
    ]
