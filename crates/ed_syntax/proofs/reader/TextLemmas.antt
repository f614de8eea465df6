-- Lines written as bytes, and texts: what is read is spelled so, and what is spelled so is read.
use Rattle.std.proofs.Common.{◌≡◌, ◌≢◌, ℕ, ◌+◌, true, false, List, [], ◌∷◌, ◌++◌, length, refl, sym, ap, ◌∙◌, ⊎_elim, subst, arith, append_assoc}
use Rattle.std.proofs.lemmas.Bool.{cases_Bool, eqb-true, false≢true}
use Rattle.std.proofs.lemmas.List.Elements.{All-nil, All-cons, All-head, All-tail}
use Rattle.ed_base.specs.Lines.{newline, IsLine, AreLines, lines_of, bytes_of}
use Rattle.ed_base.proofs.LineLemmas.{lines_of-whole}
use Rattle.ed_syntax.specs.spelling.Parameters as spelled
use Rattle.ed_syntax.specs.spelling.Parameters.{SpellsText}
use Rattle.ed_syntax.specs.reading.ReadCommands.{is_dot, text}

-- the first newline ends the first line, whatever follows
pub same_line : (line other rest more : List ℕ) → IsLine line → IsLine other → line ++ newline ∷ rest ≡ other ++ newline ∷ more → (line ≡ other) × (rest ≡ more)
same_line [] [] rest more is also same = (refl, cc)
same_line [] (c ∷ other) rest more is also same = absurd (All-head (λ b. b ≢ newline) c other also cc)
same_line (b ∷ line) [] rest more is also same = absurd (All-head (λ b. b ≢ newline) b line is cc)
same_line (b ∷ line) (c ∷ other) rest more is also same =
    let later : line ++ newline ∷ rest ≡ other ++ newline ∷ more = cc in
    let first : b ≡ c = cc in
    let parts = same_line line other rest more (All-tail (λ b. b ≢ newline) b line is) (All-tail (λ b. b ≢ newline) c other also) later in
    (ap (λ b. b ∷ line) first ∙ ap (λ line. c ∷ line) parts.0, parts.1)

-- the first line of those that bytes are, and the lines after it
pub record FirstLine (line rest : List ℕ) (lines : List (List ℕ)) : Type 0 where
  pub later : List (List ℕ)
  pub split : lines ≡ line ∷ later
  pub after : rest ≡ bytes_of later
  pub are : AreLines later

pub first_line : (line rest : List ℕ) (lines : List (List ℕ)) → IsLine line → AreLines lines → line ++ newline ∷ rest ≡ bytes_of lines → FirstLine line rest lines
first_line [] rest [] is are same = cc
first_line (b ∷ line) rest [] is are same = cc
first_line line rest (other ∷ later) is are same =
    let parts = same_line line other rest (bytes_of later) is (All-head IsLine other later are) same in
    record { later = later; split = ap (λ l. l ∷ later) (sym parts.0); after = parts.1; are = All-tail IsLine other later are }

-- bytes of no lines
pub no_lines : (lines : List (List ℕ)) → [] ≡ bytes_of lines → lines ≡ []
no_lines [] same = refl
no_lines ([] ∷ later) same = cc
no_lines ((b ∷ line) ∷ later) same = cc

pub is_dot-sound : (line : List ℕ) → is_dot line ≡ true → line ≡ 46 ∷ []
is_dot-sound [] is = absurd (false≢true is)
is_dot-sound (b ∷ []) is = ap (λ b. b ∷ []) (eqb-true b 46 is)
is_dot-sound (b ∷ c ∷ line) is = absurd (false≢true is)

pub is_dot-other : (line : List ℕ) → line ≢ 46 ∷ [] → is_dot line ≡ false
is_dot-other line other = ⊎_elim (λ yes. absurd (other (is_dot-sound line yes))) (λ no. no) (cases_Bool (is_dot line))

pub text-dot : (line : List ℕ) (lines : List (List ℕ)) → is_dot line ≡ true → text (line ∷ lines) ≡ ([], lines)
text-dot line lines is = rw (is, text) refl

text-at_dot : (lines later : List (List ℕ)) → lines ≡ (46 ∷ []) ∷ later → text lines ≡ ([], later)
text-at_dot lines later split = ap text split

pub text-line : (line : List ℕ) (lines : List (List ℕ)) → is_dot line ≡ false →
    text (line ∷ lines) ≡ (line ∷ (text lines).0, (text lines).1)
text-line line lines is = rw (is, text) refl

-- a text that was read from lines: its bytes, and as many lines as they are
pub record ReadsText (lines : List (List ℕ)) (r : List (List ℕ) × List (List ℕ)) : Type 0 where
  pub bytes : List ℕ
  pub split : bytes_of lines ≡ bytes ++ bytes_of r.1
  pub spells : SpellsText bytes (bytes_of r.1) r.0
  pub counted : length (lines_of bytes) + length r.1 ≡ length lines
  pub are : AreLines r.1

-- a text that is read is spelled so
pub text-sound : (lines : List (List ℕ)) → AreLines lines → ReadsText lines (text lines)
text-sound [] are = record { bytes = []; split = refl; spells = spelled.over; counted = refl; are = are }
text-sound (line ∷ lines) are =
    ⊎_elim
    (λ dot. subst (ReadsText (line ∷ lines)) (sym (text-dot line lines dot)) (record {
      bytes = 46 ∷ newline ∷ [];
      split = ap (λ line. line ++ newline ∷ bytes_of lines) (is_dot-sound line dot);
      spells = spelled.dot (bytes_of lines);
      counted = omega arith;
      are = All-tail IsLine line lines are;
    }))
    (λ other.
    let later = text-sound lines (All-tail IsLine line lines are) in
    let is_line = All-head IsLine line lines are in
    let left = bytes_of (text lines).1 in
    subst (ReadsText (line ∷ lines)) (sym (text-line line lines other)) (record {
      bytes = line ++ newline ∷ later.bytes;
      split = ap (λ bs. line ++ newline ∷ bs) later.split ∙ sym (append_assoc line (newline ∷ later.bytes) left);
      spells = spelled.line line later.bytes left (text lines).0 is_line (λ same. false≢true (sym other ∙ ap is_dot same)) later.spells;
      counted = ap (λ ls. length ls + length (text lines).1) (lines_of-whole line later.bytes is_line) ∙ omega (arith, later.counted);
      are = later.are;
    }))
    (cases_Bool (is_dot line))

-- lines after a text, of which these are the bytes
pub record LeftLines (rest : List ℕ) : Type 0 where
  pub lines : List (List ℕ)
  pub split : rest ≡ bytes_of lines
  pub are : AreLines lines

-- a line before a text
abbrev after_line : List ℕ → List (List ℕ) × List (List ℕ) → List (List ℕ) × List (List ℕ)
after_line line r = (line ∷ r.0, r.1)

text-after : (line : List ℕ) (lines later entered left : List (List ℕ)) → lines ≡ line ∷ later → is_dot line ≡ false → text later ≡ (entered, left) → text lines ≡ (line ∷ entered, left)
text-after line lines later entered left split other same = ap text split ∙ text-line line later other ∙ ap (after_line line) same

-- a text that is spelled so is read
pub text-complete : {bytes rest : List ℕ} {entered : List (List ℕ)} → SpellsText bytes rest entered → (lines : List (List ℕ)) → AreLines lines → bytes ++ rest ≡ bytes_of lines →
    (left : LeftLines rest) × (text lines ≡ (entered, left.lines))
text-complete spelled.over lines are same =
    (record { lines = []; split = refl; are = All-nil IsLine }, ap text (no_lines lines same))
text-complete (spelled.dot rest) lines are same =
    let first = first_line (46 ∷ []) rest lines (All-cons (λ b. b ≢ newline) 46 [] (λ same. cc) (All-nil (λ b. b ≢ newline))) are same in
    (record { lines = first.later; split = first.after; are = first.are }, text-at_dot lines first.later first.split)
text-complete (spelled.line line bytes rest entered is_line other is) lines are same =
    let first = first_line line (bytes ++ rest) lines is_line are (sym (append_assoc line (newline ∷ bytes) rest) ∙ same) in
    let later = text-complete is first.later first.are first.after in (
      later.0,
      text-after line lines first.later entered later.0.lines first.split (is_dot-other line other) later.1,
    )
