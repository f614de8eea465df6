-- A text at the beginning of bytes, cut off line by line.
use Rattle.std.proofs.Common.{◌≡◌, ◌⊎◌, inl, inr, ℕ, ◌+◌, ◌-◌, ◌<◌, ◌≤◌, List, [], ◌∷◌, ◌++◌, true, false, length, take, nat_eq, refl, sym, ap, subst, ◌∙◌, ⊎_elim, arith, append_assoc, append-nil}
use Rattle.std.specs.Cmp.Lexicographic.{pointwise}
use Rattle.std.proofs.Math.Bool.{and-true, and-false}
use Rattle.std.proofs.lemmas.List.{length-append, take_at}
use Rattle.ed_base.specs.Lines.{newline, IsLine, CutsFirst, lines_of, bytes_of}
use Rattle.ed_base.proofs.LineLemmas.{AreLines-lines_of, lines_of-whole, lines_of-written, bytes_of-append}
use Rattle.ed_syntax.specs.reading.ReadCommands.{is_dot, text}
use Rattle.ed_syntax.proofs.reader.TextLemmas.{text-line}

-- The front is the text so far, of whole lines while any bytes are left.
pub record Cut (bytes front left : List ℕ) (passed : ℕ) : Type 0 where
  pub parted : bytes ≡ front ++ left
  pub entered : text (lines_of bytes) ≡ (lines_of front ++ (text (lines_of left)).0, (text (lines_of left)).1)
  pub whole : (bytes_of (lines_of front) ≡ front) ⊎ (left ≡ [])
  pub number : passed + length (lines_of left) ≡ length (lines_of bytes)
  pub size : passed + length left ≤ length bytes

-- the line `.` and no other
pub dot-same : (line : List ℕ) → pointwise nat_eq line (46 ∷ []) ≡ is_dot line
dot-same [] = refl
dot-same (b ∷ []) = and-true (nat_eq b 46)
dot-same (b ∷ c ∷ bs) = and-false (nat_eq b 46)

-- what stands before the bytes that are left
pub front-is : (bytes front left : List ℕ) → bytes ≡ front ++ left → take (length bytes - length left) bytes ≡ front
front-is bytes front left parted =
    let size : length bytes - length left ≡ length front = omega (arith, ap length parted, length-append front left) in
    ap (λ n. take n bytes) size ∙ ap (take (length front)) parted ∙ take_at front left (length front) refl

-- where lines are left bytes are
pub some-left : (left : List ℕ) → 0 < length (lines_of left) → 0 < length left
some-left [] some = absurd (omega (arith, some))
some-left (byte ∷ left) some = omega arith

-- one more piece of the text, which is a line
cut-more : (bytes front left piece rest line : List ℕ) (passed : ℕ) → Cut bytes front left passed → left ≡ piece ++ rest → lines_of left ≡ line ∷ lines_of rest → is_dot line ≡ false → 0 < length piece →
    lines_of (front ++ piece) ≡ lines_of front ++ line ∷ [] → (bytes_of (lines_of (front ++ piece)) ≡ front ++ piece) ⊎ (rest ≡ []) → Cut bytes (take (length bytes - length rest) bytes) rest (passed + 1)
cut-more bytes front left piece rest line passed cut e lines other some more whole =
    let later : List (List ℕ) × List (List ℕ) = text (lines_of rest) in
    let parted : bytes ≡ (front ++ piece) ++ rest = cut.parted ∙ ap (λ bs. front ++ bs) e ∙ sym (append_assoc front piece rest) in
    let goes_on : text (lines_of left) ≡ (line ∷ later.0, later.1) = ap text lines ∙ text-line line (lines_of rest) other in
    let next : Cut bytes (front ++ piece) rest (passed + 1) = record {
      parted = parted;
      entered = cut.entered
          ∙ ap (λ (r : List (List ℕ) × List (List ℕ)). (lines_of front ++ r.0, r.1)) goes_on
          ∙ ap (λ (ls : List (List ℕ)). (ls, later.1)) (sym (append_assoc (lines_of front) (line ∷ []) later.0) ∙ ap (λ ls. ls ++ later.0) (sym more));
      whole = whole;
      number = omega (arith, cut.number, ap length lines);
      size = omega (arith, cut.size, ap length e, length-append piece rest, some);
    } in
    subst (λ f. Cut bytes f rest (passed + 1)) (sym (front-is bytes (front ++ piece) rest parted)) next

-- the text goes on with a line
pub cut-next : (bytes front left line rest : List ℕ) (passed : ℕ) → Cut bytes front left passed → IsLine line → CutsFirst left line rest → lines_of left ≡ line ∷ lines_of rest → is_dot line ≡ false →
    Cut bytes (take (length bytes - length rest) bytes) rest (passed + 1)
cut-next bytes front left line rest passed cut is_line cuts lines other =
    let L : List (List ℕ) = lines_of front in
    let some : 0 < length left = some-left left (omega (arith, ap length lines)) in
    let whole : bytes_of L ≡ front = ⊎_elim (λ w. w) (λ none. absurd (omega (arith, some, ap length none))) cut.whole in
    let after : (piece : List ℕ) → lines_of (front ++ piece) ≡ L ++ lines_of piece =
    λ piece. ap (λ f. lines_of (f ++ piece)) (sym whole) ∙ lines_of-written L piece (AreLines-lines_of front) in
    ⊎_elim
    (λ (e : left ≡ line ++ newline ∷ rest).
    let piece : List ℕ = line ++ newline ∷ [] in
    let more : lines_of (front ++ piece) ≡ L ++ line ∷ [] = after piece ∙ ap (λ ls. L ++ ls) (lines_of-whole line [] is_line) in
    cut-more bytes front left piece rest line passed cut (e ∙ sym (append_assoc line (newline ∷ []) rest)) lines other (omega (arith, length-append line (newline ∷ []))) more
    (inl (ap bytes_of more ∙ bytes_of-append L (line ∷ []) ∙ ap (λ f. f ++ piece) whole)))
    (λ (e : (left ≡ line) × (rest ≡ [])).
    let more : lines_of (front ++ line) ≡ L ++ line ∷ [] =
    after line ∙ ap (λ ls. L ++ ls) (ap lines_of (sym e.0) ∙ lines ∙ ap (λ r. line ∷ lines_of r) e.1) in
    cut-more bytes front left line rest line passed cut (e.0 ∙ sym (append-nil line) ∙ ap (λ r. line ++ r) (sym e.1)) lines other (omega (arith, some, ap length e.0)) more (inr e.1))
    cuts
