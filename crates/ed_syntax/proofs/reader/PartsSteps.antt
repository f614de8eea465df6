-- The parts of a replacement, one after another.
use Rattle.std.proofs.Common.{◌≡◌, ◌≢◌, ℕ, zero, suc, ◌+◌, ◌≤◌, List, [], ◌∷◌, ◌++◌, length, Some, None, refl, sym, ap, ◌∙◌, arith, append_assoc, append-nil}
use Rattle.std.proofs.lemmas.Bool.{eq-eqb, ne_eqb}
use Rattle.std.proofs.lemmas.List.{length-append}
use Rattle.ed_base.specs.Lines.{newline, bytes_of}
use Rattle.ed_syntax.specs.declared.replacement.Part.{Part}
use Rattle.ed_syntax.specs.reading.Tokens.{◌>>=◌}
use Rattle.ed_syntax.specs.reading.ReadParameters.{ParsedAt, place, part_at, after_part, parts, all_parts}
use Rattle.ed_syntax.proofs.reader.PartsLemmas.{further, at_part}

-- parts before those that are read after them
abbrev pub before_parts : List Part → ParsedAt (List Part) → ParsedAt (List Part)
before_parts ps read = read >>= λ r. Some (ps ++ r.0, r.1)

-- the parts that are left, after those so far, are all of them; there are enough steps for them
abbrev pub PartsLeft : (delimiter : ℕ) → (left : List ℕ) → (later : List (List ℕ)) → List Part → ParsedAt (List Part) → Type 0
PartsLeft delimiter left later ps all = (most : ℕ) × (length left + length (bytes_of later) ≤ most) × (before_parts ps (parts most delimiter left later) ≡ all)

none_before : (read : ParsedAt (List Part)) → before_parts [] read ≡ read
none_before None = refl
none_before (Some r) = refl

before_twice : (ps : List Part) (p : Part) (read : ParsedAt (List Part)) → before_parts ps (after_part p read) ≡ before_parts (ps ++ p ∷ []) read
before_twice ps p None = refl
before_twice ps p (Some r) = ap (λ (ps : List Part). Some (ps, r.1)) (sym (append_assoc ps (p ∷ []) r.0))

-- no part was read yet
pub parts_begin : (delimiter : ℕ) (bytes : List ℕ) (lines : List (List ℕ)) (ps : List Part) → ps ≡ [] → PartsLeft delimiter bytes lines ps (all_parts delimiter bytes lines)
parts_begin delimiter bytes lines ps none =
    let all = all_parts delimiter bytes lines in
    (length (bytes_of (bytes ∷ lines)), omega (arith, length-append bytes (newline ∷ bytes_of lines)), ap (λ ps. before_parts ps all) none ∙ none_before all)

module _ (delimiter byte : ℕ) (left bs : List ℕ) (later : List (List ℕ)) (ps : List Part) (all : ParsedAt (List Part)) (is : left ≡ byte ∷ bs) where
  -- one more part
  pub part_next : byte ≢ delimiter → (p : Part) (rest : List ℕ) (others : List (List ℕ)) (more : List Part) → part_at delimiter byte bs later ≡ Some (p, place rest others) →
      length rest + length (bytes_of others) ≤ length bs + length (bytes_of later) → more ≡ ps ++ p ∷ [] → PartsLeft delimiter left later ps all → PartsLeft delimiter rest others more all
  part_next other p rest others more read shorter appended (zero, enough, same) = absurd (omega (arith, ap length is, enough))
  part_next other p rest others more read shorter appended (suc most, enough, same) = (
    most,
    omega (arith, ap length is, shorter, enough),
    ap (λ ps. before_parts ps (parts most delimiter rest others)) appended
        ∙ sym (before_twice ps p (parts most delimiter rest others))
        ∙ ap (λ read. before_parts ps (further most delimiter read)) (sym read)
        ∙ ap (before_parts ps) (sym (at_part most delimiter byte bs later (ne_eqb byte delimiter other)))
        ∙ ap (λ left. before_parts ps (parts (suc most) delimiter left later)) (sym is)
        ∙ same,
  )

  -- a part that can't be read
  pub part_missing : byte ≢ delimiter → part_at delimiter byte bs later ≡ None → PartsLeft delimiter left later ps all → all ≡ None
  part_missing other none (zero, enough, same) = absurd (omega (arith, ap length is, enough))
  part_missing other none (suc most, enough, same) =
      sym same
      ∙ ap (λ left. before_parts ps (parts (suc most) delimiter left later)) is
      ∙ ap (before_parts ps) (at_part most delimiter byte bs later (ne_eqb byte delimiter other))
      ∙ ap (λ read. before_parts ps (further most delimiter read)) none

  -- the delimiter
  pub parts_closed : byte ≡ delimiter → PartsLeft delimiter left later ps all → all ≡ Some (ps, place left later)
  parts_closed end (zero, enough, same) = absurd (omega (arith, ap length is, enough))
  parts_closed end (suc most, enough, same) =
      let closed : parts (suc most) delimiter (byte ∷ bs) later ≡ Some ([], place (byte ∷ bs) later) = rw (eq-eqb byte delimiter end, parts) refl in
      sym same
      ∙ ap (λ left. before_parts ps (parts (suc most) delimiter left later)) is
      ∙ ap (before_parts ps) (closed ∙ ap (λ left. Some ([], place left later)) (sym is))
      ∙ ap (λ ps. Some (ps, place left later)) (append-nil ps)

-- the line's end
pub parts_over : (delimiter : ℕ) (left : List ℕ) (later : List (List ℕ)) (ps : List Part) (all : ParsedAt (List Part)) → left ≡ [] → PartsLeft delimiter left later ps all → all ≡ Some (ps, place left later)
parts_over delimiter left later ps all is (most, enough, same) =
    sym same
    ∙ ap (λ left. before_parts ps (parts most delimiter left later)) is
    ∙ ap (λ left. before_parts ps (Some ([], place left later))) (sym is)
    ∙ ap (λ ps. Some (ps, place left later)) (append-nil ps)
