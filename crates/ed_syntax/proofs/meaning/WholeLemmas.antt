-- Lines hold no newline, whatever a command makes of them.
use Rattle.std.proofs.Common.{◌≡◌, ◌≢◌, ℕ, List, [], ◌∷◌, ◌++◌, map, take, Option, Some, None, option_map, Ok, Err, sym, subst}
use Rattle.std.specs.List.{concat}
use Rattle.std.proofs.lemmas.List.Elements.{All-nil, All-cons, All-head, All-tail, All-append, All-take, All-drop, All-map}
use Rattle.bre_parse.specs.Grammar.{pattern}
use Rattle.ed_base.specs.Buffer.{Line, plain_line, texts}
use Rattle.ed_base.specs.Lines.{newline, IsLine, AreLines, lines_of}
use Rattle.ed_base.specs.Parts.{block}
use Rattle.ed_base.proofs.LineLemmas.{HoldsLines-lines, HoldsLines-lines_of}
use Rattle.ed_syntax.specs.declared.replacement.Part.{Part}
use Rattle.ed_syntax.specs.declared.replacement.Which.{Which}
use Rattle.ed_syntax.specs.meaning.Substitution.{Found, picked, taken, rewritten, replaced_in, split_at_newlines, substituted}
use Rattle.ed_syntax.specs.meaning.SubstitutedLines.{made_of}
use Rattle.ed_syntax.specs.meaning.CommandLaws.{AreWhole}

-- a byte that is no newline
abbrev pub IsOther : ℕ → Type 0
IsOther byte = byte ≢ newline

-- a line whose bytes are a line's
abbrev pub IsWhole : Line → Type 0
IsWhole line = IsLine line.bytes

-- the lines of bytes
pub lines_of-lines : (bytes : List ℕ) → AreLines (lines_of bytes)
lines_of-lines bytes = HoldsLines-lines (HoldsLines-lines_of bytes)

pub whole-plain : (text : List (List ℕ)) → AreLines text → AreWhole (map plain_line text)
whole-plain text h = All-map IsWhole plain_line text h

pub whole-block : (a b : ℕ) (xs : List Line) → AreWhole xs → AreWhole (block a b xs)
whole-block a b xs h = All-drop IsWhole a (take b xs) (All-take IsWhole b xs h)

-- the texts of lines, and all of them in a row
pub whole-texts : (xs : List Line) → AreWhole xs → AreLines (texts xs)
whole-texts xs h = All-map IsLine (λ (line : Line). line.bytes) xs h

pub line-concat : (text : List (List ℕ)) → AreLines text → IsLine (concat text)
line-concat [] h = All-nil IsOther
line-concat (line ∷ text) h =
    All-append IsOther line (concat text) (All-head IsLine line text h) (line-concat text (All-tail IsLine line text h))

-- lines that are changed, but not in their bytes
pub whole-mapped : (f : Line → Line) → ((line : Line) → (f line).bytes ≡ line.bytes) → (xs : List Line) → AreWhole xs → AreWhole (map f xs)
whole-mapped f same [] h = All-nil IsWhole
whole-mapped f same (line ∷ xs) h =
    All-cons IsWhole (f line) (map f xs) (subst (λ (bytes : List ℕ). IsLine bytes) (sym (same line)) (All-head IsWhole line xs h))
    (whole-mapped f same xs (All-tail IsWhole line xs h))

pub whole-unmapped : (f : Line → Line) → ((line : Line) → (f line).bytes ≡ line.bytes) → (xs : List Line) →
    AreWhole (map f xs) → AreWhole xs
whole-unmapped f same [] h = All-nil IsWhole
whole-unmapped f same (line ∷ xs) h =
    All-cons IsWhole line xs (subst (λ (bytes : List ℕ). IsLine bytes) (same line) (All-head IsWhole (f line) (map f xs) h))
    (whole-unmapped f same xs (All-tail IsWhole (f line) (map f xs) h))

-- what comes of a line is cut from a text in which some matches were replaced
from-replaced : (parts : List Part) (line : List ℕ) (ms : List Found) (made : List (List ℕ)) →
    option_map split_at_newlines (replaced_in parts line ms) ≡ Some made → AreLines made
from-replaced parts line [] made is = cc
from-replaced parts line (m ∷ ms) made is =
    let e : split_at_newlines (rewritten parts line 0 (m ∷ ms)) ≡ made = cc in
    subst (λ (ls : List (List ℕ)). AreLines ls) e (lines_of-lines (rewritten parts line 0 (m ∷ ms) ++ newline ∷ []))

pub made-lines : (text : List ℕ) (parts : List Part) (which : Which) (line : List ℕ) (made : List (List ℕ)) →
    made_of text parts which line ≡ Some made → AreLines made
made-lines text parts which line made =
    elim (pattern text) as (λ r. (elim r as (λ _. Option (List (List ℕ))) [
      | Ok tree ↦ substituted tree parts which line
      | Err f ↦ None
    ]) ≡ Some made → AreLines made) [
      | Ok tree ↦ λ is. from-replaced parts line (picked which (taken tree line)) made is
      | Err f ↦ λ is. cc
    ]
