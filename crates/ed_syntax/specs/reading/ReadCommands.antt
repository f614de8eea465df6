-- How the reader takes a command without a list apart: functions on the lines that are left (XCU ed, "Commands in ed").
use Rattle.std.specs.Prelude.{ℕ, Bool, true, false, ◌&&◌, List, [], ◌∷◌, Option, Some, None, nat_eq}
use Rattle.std.specs.List.{list_all}
use Rattle.ed_syntax.specs.Commands as ed
use Rattle.ed_syntax.specs.Commands.{Addresses, Form, Verb, Command}
use Rattle.ed_syntax.specs.meaning.Verbs.{may_have, may_stand, takes}
use Rattle.ed_syntax.specs.spelling.CommandLetters.{entering}
use Rattle.ed_syntax.specs.spelling.Characters.{is_blank}
use Rattle.ed_syntax.specs.spelling.Letters.{letter_s}
use Rattle.ed_syntax.specs.reading.Tokens.{◌>>=◌, addresses}
use Rattle.ed_syntax.specs.reading.ReadVerbs.{verb_at}
use Rattle.ed_syntax.specs.reading.ReadParameters.{place, ParsedAt, form_of, substitution}

-- a command's letter with its parameters, before its text is read; a replacement may go on in the lines after
abbrev pub verb_from : List ℕ → List (List ℕ) → ParsedAt Verb
verb_from [] later = Some (ed.Null, place [] later)
verb_from (b ∷ bs) later =
    elim (nat_eq b letter_s) [
      | true ↦ substitution bs later
      | false ↦ verb_at (b ∷ bs) >>= λ r. Some (r.0, place r.1 later)
    ]

-- nothing but blanks is left of the line
abbrev pub is_over : List ℕ → Bool
is_over bs = list_all is_blank bs

-- the end of a command's own line: a suffix, if the command takes one, and blanks
abbrev pub suffix_at : Verb → List ℕ → Option (Option Form)
suffix_at verb [] = Some None
suffix_at verb (b ∷ bs) =
    elim (form_of b) [
      | Some form ↦ elim ((takes verb).suffix && is_over bs) [ true ↦ Some (Some form) | false ↦ None ]
      | None ↦ elim (is_over (b ∷ bs)) [ true ↦ Some None | false ↦ None ]
    ]

-- a command, before its text is read
pub record Heading : Type 0 where
  pub addresses : Addresses
  pub verb : Verb
  pub suffix : Option Form

-- the suffix after a verb, if the verb may stand here, with these addresses before it; none also where what follows is no suffix
abbrev pub suffix_with : (listed : Bool) → Addresses → Verb → List ℕ → Option (Option Form)
suffix_with listed given verb bs = elim (may_have given verb && may_stand listed verb) [ true ↦ suffix_at verb bs | false ↦ None ]

-- the command may stand here, the addresses before it, and its line is over
abbrev pub heading_with : (listed : Bool) → Addresses → List ℕ → Verb → Option Heading
heading_with listed given bs verb = suffix_with listed given verb bs >>= λ suffix. Some (record { addresses = given; verb = verb; suffix = suffix })

-- a heading, and the lines after it
abbrev pub Headed : Type 0
Headed = Heading × List (List ℕ)

-- a heading before these lines
abbrev pub headed : List (List ℕ) → Option Heading → Option Headed
headed later h = h >>= λ h. Some (h, later)

-- what stands after the addresses on a command's own line, with the lines on which its replacement goes on
abbrev pub heading_after_addresses : (listed : Bool) → Addresses → List ℕ → List (List ℕ) → Option Headed
heading_after_addresses listed given bs later = verb_from bs later >>= λ r. headed r.1.later (heading_with listed given r.1.line r.0)

-- the lines that are left, and the number of the line that was read last
pub record LinesLeft : Type 0 where
  pub lines : List (List ℕ)
  pub number : ℕ

-- a line that is `.` ends a text
abbrev pub is_dot : List ℕ → Bool
is_dot [] = false
is_dot (b ∷ []) = nat_eq b 46
is_dot (b ∷ c ∷ bs) = false

-- the lines of a text, up to a line that is `.` or the end, and the lines after it
abbrev pub text : List (List ℕ) → List (List ℕ) × List (List ℕ)
text [] = ([], [])
text (line ∷ lines) = elim (is_dot line) [ true ↦ ([], lines) | false ↦ let r = text lines in (line ∷ r.0, r.1) ]

-- a verb with its text, if it takes one, from the lines after its own, and the lines after that
abbrev pub with_text : Verb → List (List ℕ) → Verb × List (List ℕ)
with_text verb later = elim (takes verb).text [ true ↦ let r = text later in (entering r.0 verb, r.1) | false ↦ (verb, later) ]

-- the command of a heading, and the lines after it
abbrev pub finished : (listed : Bool) → Heading → List (List ℕ) → Command × List (List ℕ)
finished listed h later =
    let r = with_text h.verb later in
    (record { addresses = h.addresses; verb = r.0; suffix = h.suffix; listed = listed }, r.1)

-- what was read from a line on, and the lines after it; none where it can't be read
abbrev pub Taken : Type 0 → Type 0
Taken A = Option (A × List (List ℕ))

-- a command after its addresses
abbrev pub command_after_addresses : (listed : Bool) → Addresses → List ℕ → List (List ℕ) → Taken Command
command_after_addresses listed given bs later = heading_after_addresses listed given bs later >>= λ h. Some (finished listed h.0 h.1)

-- the command that begins on this line, in a list or outside, and the lines after it
abbrev pub command_at : (listed : Bool) → List ℕ → List (List ℕ) → Taken Command
command_at listed line later = addresses line >>= λ r. command_after_addresses listed r.0 r.1 later
