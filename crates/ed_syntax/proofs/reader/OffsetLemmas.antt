-- Offsets: what is read is spelled so, and what is spelled so is read.
use Rattle.std.proofs.Common.{◌≡◌, ℕ, zero, suc, ◌<◌, ◌≤◌, ℤ, pos, ◌+ℤ◌, neg_ℤ, true, nat_eq, List, [], ◌∷◌, length, Some, refl, sym, ap, ◌∙◌, subst, arith}
use Rattle.std.specs.Prelude.{IsFalse}
use Rattle.std.proofs.lemmas.Bool.{eqb-true, or_from, or_parts}
use Rattle.ed_syntax.specs.spelling.Characters.{plus_sign, hyphen, is_digit, is_sign, begins, after_blanks}
use Rattle.ed_syntax.specs.spelling.Addressing.{SpellsDistance, SpellsOffsets}
use Rattle.ed_syntax.specs.reading.Tokens.{Parsed, ◌>>=◌, number, distance, summed, offsets}
use Rattle.ed_syntax.proofs.meaning.StepLemmas.{Some-same, bind-some, chosen, either}
use Rattle.ed_syntax.proofs.reader.BlankLemmas.{after_blanks-short}
use Rattle.ed_syntax.proofs.reader.NumberLemmas.{number-sound, number-complete, number-first, number-shorter}

-- a distance that is read is spelled so
pub distance-sound : (text : List ℕ) (r : ℕ × List ℕ) → distance text ≡ Some r → SpellsDistance text r.1 r.0
distance-sound text =
    either (λ (read : Parsed ℕ). (r : ℕ × List ℕ) → read ≡ Some r → SpellsDistance text r.1 r.0) (begins is_digit text) (number text) (Some (1, text))
    (λ digit r is. SpellsDistance.number text r.1 r.0 (number-sound text r is))
    (λ other r is. subst (λ (r : ℕ × List ℕ). SpellsDistance text r.1 r.0) (Some-same (1, text) r is) (SpellsDistance.one text other))

-- a distance that is spelled so is read
pub distance-complete : {text rest : List ℕ} {n : ℕ} → SpellsDistance text rest n → distance text ≡ Some (n, rest)
distance-complete (SpellsDistance.one rest other) = ap (λ t. chosen t (number rest) (Some (1, rest))) other
distance-complete (SpellsDistance.number text rest n is) = ap (λ t. chosen t (number text) (Some (1, text))) (number-first is) ∙ number-complete is

-- what stands after a distance is no longer
pub distance-short : {text rest : List ℕ} {n : ℕ} → SpellsDistance text rest n → length rest ≤ length text
distance-short (SpellsDistance.one rest other) = omega arith
distance-short (SpellsDistance.number text rest n is) = omega (arith, number-shorter is)

-- offsets that are read are spelled so
abbrev OffsetsSpelled : List ℕ → Parsed ℤ → Type 0
OffsetsSpelled text read = (r : ℤ × List ℕ) → read ≡ Some r → SpellsOffsets text r.1 r.0

no_offset : (text : List ℕ) → IsFalse (begins is_sign (after_blanks text)) → OffsetsSpelled text (Some (pos 0, text))
no_offset text none r is = subst (λ (r : ℤ × List ℕ). SpellsOffsets text r.1 r.0) (Some-same (pos 0, text) r is) (SpellsOffsets.none text none)

-- what a sign makes of the distance after it
abbrev signed : (ℕ → ℤ) → (most : ℕ) → List ℕ → Parsed ℤ
signed offset most bs = distance bs >>= λ n. summed (offset n.0) (offsets most n.1)

-- an offset is spelled before others
abbrev Signs : (byte : ℕ) → (ℕ → ℤ) → Type 0
Signs byte offset = (text number more rest : List ℕ) (n : ℕ) (sum : ℤ) → after_blanks text ≡ byte ∷ number → SpellsDistance number more n →
    SpellsOffsets more rest sum → SpellsOffsets text rest (offset n +ℤ sum)

one_offset : (byte : ℕ) (offset : ℕ → ℤ) → Signs byte offset → (most b : ℕ) (text bs : List ℕ) → after_blanks text ≡ b ∷ bs → nat_eq b byte ≡ true →
    ((more : List ℕ) → length more ≤ length bs → OffsetsSpelled more (offsets most more)) → OffsetsSpelled text (signed offset most bs)
one_offset byte offset signs most b text bs same sign later r is =
    let n = bind-some (distance bs) (λ n. summed (offset n.0) (offsets most n.1)) r is in
    let sum = bind-some (offsets most n.0.1) (λ s. Some (offset n.0.0 +ℤ s.0, s.1)) r n.2 in
    let far = distance-sound bs n.0 n.1 in
    let others = later n.0.1 (distance-short far) sum.0 sum.1 in
    let first : after_blanks text ≡ byte ∷ bs = same ∙ ap (λ b. b ∷ bs) (eqb-true b byte sign) in
    subst (λ (r : ℤ × List ℕ). SpellsOffsets text r.1 r.0) (Some-same (offset n.0.0 +ℤ sum.0.0, sum.0.1) r sum.2)
    (signs text bs n.0.1 sum.0.1 n.0.0 sum.0.0 first far others)

-- what is read where these bytes stand after the blanks
abbrev at_left : (most : ℕ) → (text left : List ℕ) → Parsed ℤ
at_left most text [] = Some (pos 0, text)
at_left most text (b ∷ bs) = chosen (nat_eq b plus_sign) (signed pos most bs) (chosen (nat_eq b hyphen) (signed (λ n. neg_ℤ (pos n)) most bs) (Some (pos 0, text)))

offsets-left : (most : ℕ) (text left : List ℕ) → after_blanks text ≡ left → offsets (suc most) text ≡ at_left most text left
offsets-left most text [] same = rw (same, offsets) refl
offsets-left most text (b ∷ bs) same = rw (same, offsets) refl

left-sound : (most : ℕ) (text left : List ℕ) → after_blanks text ≡ left → ((more : List ℕ) → length more < length left → OffsetsSpelled more (offsets most more)) → OffsetsSpelled text (at_left most text left)
left-sound most text [] same later = no_offset text (ap (begins is_sign) same)
left-sound most text (b ∷ bs) same later =
    let shorter : (more : List ℕ) → length more ≤ length bs → OffsetsSpelled more (offsets most more) = λ more short. later more (omega (arith, short)) in
    either (OffsetsSpelled text) (nat_eq b plus_sign) (signed pos most bs) (chosen (nat_eq b hyphen) (signed (λ n. neg_ℤ (pos n)) most bs) (Some (pos 0, text)))
    (λ plus. one_offset plus_sign pos SpellsOffsets.plus most b text bs same plus shorter)
    (λ no_plus. either (OffsetsSpelled text) (nat_eq b hyphen) (signed (λ n. neg_ℤ (pos n)) most bs) (Some (pos 0, text))
    (λ minus. one_offset hyphen (λ n. neg_ℤ (pos n)) SpellsOffsets.minus most b text bs same minus shorter)
    (λ no_minus. no_offset text (ap (begins is_sign) same ∙ or_from (nat_eq b plus_sign) (nat_eq b hyphen) no_plus no_minus)))

pub offsets-sound : (most : ℕ) (text : List ℕ) → length text ≤ most → OffsetsSpelled text (offsets most text)
offsets-sound zero [] short = no_offset [] refl
offsets-sound zero (b ∷ bs) short = absurd (omega (arith, short))
offsets-sound (suc most) text short = λ r is.
    let left = after_blanks text in
    left-sound most text left refl (λ more shorter. offsets-sound most more (omega (arith, short, shorter, after_blanks-short text))) r (sym (offsets-left most text left refl) ∙ is)

left-none : (most : ℕ) (text left : List ℕ) → IsFalse (begins is_sign left) → at_left most text left ≡ Some (pos 0, text)
left-none most text [] none = refl
left-none most text (b ∷ bs) none =
    let signs = or_parts (nat_eq b plus_sign) (nat_eq b hyphen) none in
    rw (signs.0, signs.1, at_left) refl

-- offsets that are spelled so are read
pub offsets-complete : {text rest : List ℕ} {sum : ℤ} → SpellsOffsets text rest sum → (most : ℕ) → length text ≤ most → offsets most text ≡ Some (sum, rest)
offsets-complete (SpellsOffsets.none rest none) zero short = refl
offsets-complete (SpellsOffsets.none rest none) (suc most) short = offsets-left most rest (after_blanks rest) refl ∙ left-none most rest (after_blanks rest) none
offsets-complete (SpellsOffsets.plus text number more rest n sum same far others) zero short =
    absurd (omega (arith, ap length same, short, after_blanks-short text))
offsets-complete (SpellsOffsets.plus text number more rest n sum same far others) (suc most) short =
    offsets-left most text (plus_sign ∷ number) same
    ∙ ap (λ (o : Parsed ℕ). o >>= λ n. summed (pos n.0) (offsets most n.1)) (distance-complete far)
    ∙ ap (summed (pos n)) (offsets-complete others most (omega (arith, ap length same, short, distance-short far, after_blanks-short text)))
offsets-complete (SpellsOffsets.minus text number more rest n sum same far others) zero short =
    absurd (omega (arith, ap length same, short, after_blanks-short text))
offsets-complete (SpellsOffsets.minus text number more rest n sum same far others) (suc most) short =
    offsets-left most text (hyphen ∷ number) same
    ∙ ap (λ (o : Parsed ℕ). o >>= λ n. summed (neg_ℤ (pos n.0)) (offsets most n.1)) (distance-complete far)
    ∙ ap (summed (neg_ℤ (pos n))) (offsets-complete others most (omega (arith, ap length same, short, distance-short far, after_blanks-short text)))
