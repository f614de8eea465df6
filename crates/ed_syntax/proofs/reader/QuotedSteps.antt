-- The bytes of a pattern up to its delimiter, one part after another.
use Rattle.std.proofs.Common.{◌≡◌, ◌≢◌, ℕ, zero, suc, ◌-◌, ◌≤◌, true, false, nat_eq, eq-eqb, List, [], ◌∷◌, ◌++◌, length, take, Some, None, refl, sym, ap, ◌∙◌, arith, append_assoc}
use Rattle.std.proofs.lemmas.Bool.{ne_eqb}
use Rattle.bre_parse.specs.Brackets.{after_bracket}
use Rattle.ed_syntax.specs.spelling.Characters.{left_square_bracket, backslash}
use Rattle.ed_syntax.specs.reading.Tokens.{Parsed, ◌>>=◌, after_bytes, unescaped, quoted}

-- the pattern that is left, after the bytes so far, is all of it; there are enough steps for it
abbrev pub QuotedLeft : (delimiter : ℕ) → (left text : List ℕ) → Parsed (List ℕ) → Type 0
QuotedLeft delimiter left text all = (most : ℕ) × (length left ≤ most) × (after_bytes text (quoted most delimiter left) ≡ all)

after_twice : (a b : List ℕ) (read : Parsed (List ℕ)) → after_bytes a (after_bytes b read) ≡ after_bytes (a ++ b) read
after_twice a b None = refl
after_twice a b (Some r) = ap (λ (text : List ℕ). Some (text, r.1)) (sym (append_assoc a b r.0))

module _ (most delimiter byte : ℕ) (rest : List ℕ) (other : nat_eq byte delimiter ≡ false) where
  at_backslash : (second : ℕ) → nat_eq byte backslash ≡ true → quoted (suc most) delimiter (byte ∷ second ∷ rest) ≡ after_bytes (unescaped delimiter second) (quoted most delimiter rest)
  at_backslash second is = rw (other, is, quoted) refl

  at_bracket : nat_eq byte backslash ≡ false → nat_eq byte left_square_bracket ≡ true →
      quoted (suc most) delimiter (byte ∷ rest) ≡ (after_bracket rest >>= λ after. after_bytes (byte ∷ take (length rest - length after) rest) (quoted most delimiter after))
  at_bracket plain is = rw (other, plain, is, quoted) refl

  at_ordinary : nat_eq byte backslash ≡ false → nat_eq byte left_square_bracket ≡ false → quoted (suc most) delimiter (byte ∷ rest) ≡ after_bytes (byte ∷ []) (quoted most delimiter rest)
  at_ordinary plain outside = rw (other, plain, outside, quoted) refl

module _ (delimiter byte : ℕ) (left rest text more : List ℕ) (all : Parsed (List ℕ)) (is : left ≡ byte ∷ rest) (other : byte ≢ delimiter) where
  -- a byte after a backslash
  pub escaped : (second : ℕ) (after : List ℕ) → rest ≡ second ∷ after → byte ≡ backslash → more ≡ text ++ unescaped delimiter second →
      QuotedLeft delimiter left text all → QuotedLeft delimiter after more all
  escaped second after next escapes appended (zero, enough, same) = absurd (omega (arith, ap length is))
  escaped second after next escapes appended (suc most, enough, same) = (
    most,
    omega (arith, ap length is, ap length next),
    ap (λ text. after_bytes text (quoted most delimiter after)) appended
        ∙ sym (after_twice text (unescaped delimiter second) (quoted most delimiter after))
        ∙ ap (after_bytes text) (sym (at_backslash most delimiter byte after (ne_eqb byte delimiter other) second (eq-eqb byte backslash escapes)))
        ∙ ap (λ left. after_bytes text (quoted (suc most) delimiter left)) (sym (is ∙ ap (λ rest. byte ∷ rest) next))
        ∙ same,
  )

  -- a bracket expression
  pub bracketed : (after : List ℕ) → byte ≡ left_square_bracket → after_bracket rest ≡ Some after → length after ≤ length rest → more ≡ text ++ take (length left - length after) left →
      QuotedLeft delimiter left text all → QuotedLeft delimiter after more all
  bracketed after opens found shorter appended (zero, enough, same) = absurd (omega (arith, ap length is))
  bracketed after opens found shorter appended (suc most, enough, same) =
      let plain : byte ≢ backslash = λ e. omega (arith, e, opens) in
      let inside : List ℕ = byte ∷ take (length rest - length after) rest in
      let count : suc (length rest) - length after ≡ suc (length rest - length after) = omega (arith, shorter) in
      let whole : take (length left - length after) left ≡ inside = ap (λ left. take (length left - length after) left) is ∙ ap (λ count. take count (byte ∷ rest)) count in (
        most,
        omega (arith, ap length is, shorter),
        ap (λ text. after_bytes text (quoted most delimiter after)) (appended ∙ ap (λ part. text ++ part) whole)
            ∙ sym (after_twice text inside (quoted most delimiter after))
            ∙ ap (λ found. after_bytes text (found >>= λ after. after_bytes (byte ∷ take (length rest - length after) rest) (quoted most delimiter after))) (sym found)
            ∙ ap (after_bytes text) (sym (at_bracket most delimiter byte rest (ne_eqb byte delimiter other) (ne_eqb byte backslash plain) (eq-eqb byte left_square_bracket opens)))
            ∙ ap (λ left. after_bytes text (quoted (suc most) delimiter left)) (sym is)
            ∙ same,
      )

  -- a byte that is itself
  pub ordinary : byte ≢ backslash → byte ≢ left_square_bracket → more ≡ text ++ byte ∷ [] → QuotedLeft delimiter left text all → QuotedLeft delimiter rest more all
  ordinary plain outside appended (zero, enough, same) = absurd (omega (arith, ap length is))
  ordinary plain outside appended (suc most, enough, same) = (
    most,
    omega (arith, ap length is),
    ap (λ text. after_bytes text (quoted most delimiter rest)) appended
        ∙ sym (after_twice text (byte ∷ []) (quoted most delimiter rest))
        ∙ ap (after_bytes text) (sym (at_ordinary most delimiter byte rest (ne_eqb byte delimiter other) (ne_eqb byte backslash plain) (ne_eqb byte left_square_bracket outside)))
        ∙ ap (λ left. after_bytes text (quoted (suc most) delimiter left)) (sym is)
        ∙ same,
  )
