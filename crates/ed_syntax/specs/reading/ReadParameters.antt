-- How the reader takes the parameters of `s` apart: functions on the lines that are left (XCU ed, "Substitute Command").
use Rattle.std.specs.Prelude.{ℕ, zero, suc, ◌-◌, Bool, true, false, not, ◌&&◌, ◌||◌, List, [], ◌∷◌, length, drop, Option, Some, None, unwrap_or, nat_eq}
use Rattle.ed_base.specs.Lines.{bytes_of}
use Rattle.ed_syntax.specs.declared.replacement.Part.{Part}
use Rattle.ed_syntax.specs.declared.replacement.Part.TheVariants as part
use Rattle.ed_syntax.specs.declared.replacement.Which.{Which}
use Rattle.ed_syntax.specs.declared.replacement.Which.TheVariants as which
use Rattle.ed_syntax.specs.Commands as ed
use Rattle.ed_syntax.specs.Commands.{Form, Verb}
use Rattle.ed_syntax.specs.spelling.Characters.{percent_sign, ampersand, backslash, is_digit, is_letter, is_delimiter}
use Rattle.ed_syntax.specs.spelling.Letters.{letter_g, letter_l, letter_n, letter_p}
use Rattle.ed_syntax.specs.reading.Tokens.{Parsed, ◌>>=◌, number, pattern_at}

-- a place in a script: what is left of a line, and the lines after it
pub record Place : Type 0 where
  pub line : List ℕ
  pub later : List (List ℕ)

-- the place with this left of its line
abbrev pub place : List ℕ → List (List ℕ) → Place
place line later = record { line = line; later = later }

-- what was read from a place on, and the place after it; none where it can't be read
abbrev pub ParsedAt : Type 0 → Type 0
ParsedAt A = Option (A × Place)

-- what a backslash and a byte that isn't the delimiter mean in a replacement; nothing for a letter or `0`
abbrev pub part_escaped : (byte : ℕ) → Option Part
part_escaped b =
    elim (is_letter b || nat_eq b 48) [
      | true ↦ None
      | false ↦ elim (is_digit b) [ true ↦ Some (part.Group (b - 49)) | false ↦ Some (part.Literal b) ]
    ]

-- what a backslash and a byte mean in a replacement
abbrev pub unescaped_part : (delimiter byte : ℕ) → Option Part
unescaped_part delimiter b = elim (nat_eq b delimiter) [ true ↦ Some (part.Literal b) | false ↦ part_escaped b ]

-- what stands after a backslash; at a line's end it is a split
abbrev pub escaped_at : (delimiter : ℕ) → List ℕ → List (List ℕ) → ParsedAt Part
escaped_at delimiter [] [] = None
escaped_at delimiter [] (line ∷ later) = Some (part.Split, place line later)
escaped_at delimiter (b ∷ bs) later = unescaped_part delimiter b >>= λ p. Some (p, place bs later)

-- the part that begins with a byte, which isn't the delimiter
abbrev pub part_at : (delimiter byte : ℕ) → List ℕ → List (List ℕ) → ParsedAt Part
part_at delimiter b bs later =
    elim (nat_eq b backslash) [
      | true ↦ escaped_at delimiter bs later
      | false ↦ Some (elim (nat_eq b ampersand) [ true ↦ part.Match | false ↦ part.Literal b ], place bs later)
    ]

-- a part before those that are read after it
abbrev pub after_part : Part → ParsedAt (List Part) → ParsedAt (List Part)
after_part p read = read >>= λ r. Some (p ∷ r.0, r.1)

-- the parts up to the delimiter, with which the rest begins, or the line's end; at most so many steps, which no script reaches
abbrev pub parts : (most : ℕ) → (delimiter : ℕ) → List ℕ → List (List ℕ) → ParsedAt (List Part)
parts most delimiter [] later = Some ([], place [] later)
parts zero delimiter (b ∷ bs) later = None
parts (suc most) delimiter (b ∷ bs) later =
    elim (nat_eq b delimiter) [
      | true ↦ Some ([], place (b ∷ bs) later)
      | false ↦ part_at delimiter b bs later >>= λ p. after_part p.0 (parts most delimiter p.1.line p.1.later)
    ]

-- all parts of a replacement
abbrev pub all_parts : (delimiter : ℕ) → List ℕ → List (List ℕ) → ParsedAt (List Part)
all_parts delimiter line later = parts (length (bytes_of (line ∷ later))) delimiter line later

-- the line is over, or goes on with the delimiter
abbrev pub is_closed : (delimiter : ℕ) → List ℕ → Bool
is_closed delimiter [] = true
is_closed delimiter (b ∷ bs) = nat_eq b delimiter

-- `%` alone
abbrev pub is_percent : (delimiter : ℕ) → List ℕ → Bool
is_percent delimiter [] = false
is_percent delimiter (b ∷ bs) = nat_eq b percent_sign && not (nat_eq b delimiter) && is_closed delimiter bs

-- a replacement; `%` alone is the remembered one
abbrev pub replacement : (delimiter : ℕ) → List ℕ → List (List ℕ) → ParsedAt (Option (List Part))
replacement delimiter line later =
    elim (is_percent delimiter line) [
      | true ↦ Some (None, place (drop 1 line) later)
      | false ↦ all_parts delimiter line later >>= λ r. Some (Some r.0, r.1)
    ]

-- the form of a letter
abbrev pub form_of : ℕ → Option Form
form_of b =
    elim (nat_eq b letter_l) [
      | true ↦ Some ed.Unambiguous
      | false ↦ elim (nat_eq b letter_n) [
        | true ↦ Some ed.Numbered
        | false ↦ elim (nat_eq b letter_p) [ true ↦ Some ed.Plain | false ↦ None ]
      ]
    ]

-- the letter of a form, or none
abbrev pub form_at : List ℕ → Option Form × List ℕ
form_at [] = (None, [])
form_at (b ∷ bs) = elim (form_of b) [ Some form ↦ (Some form, bs) | None ↦ (None, b ∷ bs) ]

-- a count isn't 0
abbrev pub nth : ℕ → Option Which
nth zero = None
nth (suc before) = Some (which.Nth before)

-- a count
abbrev pub count_at : List ℕ → Parsed (Option Which)
count_at bs = number bs >>= λ r. nth r.0 >>= λ w. Some (Some w, r.1)

-- a count or `g`, or none
abbrev pub which_at : List ℕ → Parsed (Option Which)
which_at [] = Some (None, [])
which_at (b ∷ bs) =
    elim (nat_eq b letter_g) [
      | true ↦ Some (Some which.All, bs)
      | false ↦ elim (is_digit b) [ true ↦ count_at (b ∷ bs) | false ↦ Some (None, b ∷ bs) ]
    ]

-- a count or `g` after a form, where none stood before it
abbrev pub later_which : Option Which → List ℕ → Parsed Which
later_which (Some w) bs = Some (w, bs)
later_which None bs = which_at bs >>= λ r. Some (unwrap_or r.0 which.First, r.1)

-- the flags of `s`
abbrev pub flags : List ℕ → Parsed (Which × Option Form)
flags bs =
    which_at bs >>= λ w.
    let form = form_at w.1 in
    later_which w.0 form.1 >>= λ r. Some ((r.0, form.0), r.1)

-- what stands after a replacement: its delimiter and flags, or the line's end, which writes as `p` does
abbrev pub end_at : List ℕ → Parsed (Which × Option Form)
end_at [] = Some ((which.First, Some ed.Plain), [])
end_at (b ∷ bs) = flags bs

-- what stands after the pattern of `s`, whose closing delimiter has to be there
abbrev pub substitution_with : (delimiter : ℕ) → Option (List ℕ) → List ℕ → List (List ℕ) → ParsedAt Verb
substitution_with delimiter pattern [] later = None
substitution_with delimiter pattern (b ∷ bs) later =
    replacement delimiter bs later >>= λ r.
    end_at r.1.line >>= λ e. Some (ed.Substitute pattern r.0 e.0.0 e.0.1, place e.1 r.1.later)

-- a pattern between delimiters, and what stands after it
abbrev pub substitution_by : (delimiter : ℕ) → List ℕ → List (List ℕ) → ParsedAt Verb
substitution_by delimiter bs later = pattern_at delimiter bs >>= λ q. substitution_with delimiter q.0 q.1 later

-- what stands after the letter `s`
abbrev pub substitution : List ℕ → List (List ℕ) → ParsedAt Verb
substitution [] later = None
substitution (b ∷ bs) later = elim (is_delimiter b) [ true ↦ substitution_by b bs later | false ↦ None ]
