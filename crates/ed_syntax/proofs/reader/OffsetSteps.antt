-- The sum of offsets, one offset after another.
use Rattle.std.proofs.Common.{◌≡◌, ◌≢◌, ℕ, zero, suc, ◌<◌, ◌≤◌, false, nat_eq, ℤ, pos, neg_ℤ, ◌+ℤ◌, List, [], ◌∷◌, length, get_or, Some, None, refl, sym, ap, ◌∙◌, arith}
use Rattle.std.proofs.Math.IntN.{+ℤ_assoc, +ℤ_idl, +ℤ_idr}
use Rattle.std.proofs.lemmas.Bool.{ne_eqb}
use Rattle.ed_syntax.specs.spelling.Characters.{plus_sign, hyphen, after_blanks}
use Rattle.ed_syntax.specs.reading.Tokens.{Parsed, ◌>>=◌, summed, distance, offsets}

-- the offsets that are left, after a sum, are all of them; there are enough steps for them
abbrev pub OffsetsLeft : List ℕ → ℤ → Parsed ℤ → Type 0
OffsetsLeft left sum all = (most : ℕ) × (length left ≤ most) × (summed sum (offsets most left) ≡ all)

-- nothing is summed yet
pub none_summed : (read : Parsed ℤ) → summed (pos 0) read ≡ read
none_summed None = refl
none_summed (Some r) = ap (λ (sum : ℤ). Some (sum, r.1)) (+ℤ_idl r.0)

summed_twice : (a b : ℤ) (read : Parsed ℤ) → summed a (summed b read) ≡ summed (a +ℤ b) read
summed_twice a b None = refl
summed_twice a b (Some r) = ap (λ (sum : ℤ). Some (sum, r.1)) (sym (+ℤ_assoc a b r.0))

-- what a sign makes of the distance after it
abbrev after_sign : (ℕ → ℤ) → ℕ → Parsed ℕ → Parsed ℤ
after_sign signed most far = far >>= λ n. summed (signed n.0) (offsets most n.1)

module _ (left bytes : List ℕ) (most : ℕ) where
  at_plus : after_blanks left ≡ plus_sign ∷ bytes → offsets (suc most) left ≡ after_sign pos most (distance bytes)
  at_plus is = rw (is, offsets) refl

  at_minus : after_blanks left ≡ hyphen ∷ bytes → offsets (suc most) left ≡ after_sign (λ n. neg_ℤ (pos n)) most (distance bytes)
  at_minus is = rw (is, offsets) refl

-- an offset that was read, before the others
signed_first : (signed : ℕ → ℤ) (most n : ℕ) (sum more : ℤ) (bytes rest : List ℕ) → distance bytes ≡ Some (n, rest) → more ≡ sum +ℤ signed n →
    summed more (offsets most rest) ≡ summed sum (after_sign signed most (distance bytes))
signed_first signed most n sum more bytes rest read total =
    ap (λ total. summed total (offsets most rest)) total
    ∙ sym (summed_twice sum (signed n) (offsets most rest))
    ∙ ap (λ far. summed sum (after_sign signed most far)) (sym read)

module _ (left bytes rest : List ℕ) (sum more : ℤ) (n : ℕ) (all : Parsed ℤ) (read : distance bytes ≡ Some (n, rest)) (shorter : length rest < length left) where
  -- an offset by `+` before the others
  pub plus_first : after_blanks left ≡ plus_sign ∷ bytes → more ≡ sum +ℤ pos n → OffsetsLeft left sum all → OffsetsLeft rest more all
  plus_first is total (zero, enough, same) = absurd (omega (arith, shorter, enough))
  plus_first is total (suc most, enough, same) =
      (most, omega (arith, shorter, enough), signed_first pos most n sum more bytes rest read total ∙ ap (summed sum) (sym (at_plus left bytes most is)) ∙ same)

  -- an offset by `-` before the others
  pub minus_first : after_blanks left ≡ hyphen ∷ bytes → more ≡ sum +ℤ neg_ℤ (pos n) → OffsetsLeft left sum all → OffsetsLeft rest more all
  minus_first is total (zero, enough, same) = absurd (omega (arith, shorter, enough))
  minus_first is total (suc most, enough, same) =
      (most, omega (arith, shorter, enough), signed_first (λ n. neg_ℤ (pos n)) most n sum more bytes rest read total ∙ ap (summed sum) (sym (at_minus left bytes most is)) ∙ same)

-- where no sign follows, the sum is whole
no_offset : (most : ℕ) (left next : List ℕ) → after_blanks left ≡ next → get_or next 0 0 ≢ plus_sign → get_or next 0 0 ≢ hyphen → offsets most left ≡ Some (pos 0, left)
no_offset zero left next is no_plus no_minus = refl
no_offset (suc most) left [] is no_plus no_minus = rw (is, offsets) refl
no_offset (suc most) left (b ∷ bytes) is no_plus no_minus =
    let plus : nat_eq b plus_sign ≡ false = ne_eqb b plus_sign no_plus in
    let minus : nat_eq b hyphen ≡ false = ne_eqb b hyphen no_minus in
    rw (is, offsets) (rw (plus, minus) refl)

pub none_left : (left next : List ℕ) (sum : ℤ) (all : Parsed ℤ) → after_blanks left ≡ next → get_or next 0 0 ≢ plus_sign → get_or next 0 0 ≢ hyphen → OffsetsLeft left sum all → all ≡ Some (sum, left)
none_left left next sum all is no_plus no_minus (most, enough, same) =
    sym same ∙ ap (summed sum) (no_offset most left next is no_plus no_minus) ∙ ap (λ (sum : ℤ). Some (sum, left)) (+ℤ_idr sum)
