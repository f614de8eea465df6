-- Blanks at the front of bytes.
use Rattle.std.proofs.Common.{◌≡◌, ℕ, ◌≤◌, true, false, List, [], ◌∷◌, length, refl, sym, ap, ◌∙◌, ⊎_elim, arith}
use Rattle.std.proofs.lemmas.Bool.{cases_Bool}
use Rattle.std.proofs.lemmas.List.Elements.{All-nil, All-cons, All-head, All-tail}
use Rattle.ed_syntax.specs.spelling.Characters.{is_blank, after_blanks}
use Rattle.ed_syntax.specs.spelling.Addressing.{Blanks}

abbrev pub IsBlank : ℕ → Type 0
IsBlank b = is_blank b ≡ true

-- a blank is passed
after_blanks-blank : (b : ℕ) (bytes : List ℕ) → is_blank b ≡ true → after_blanks (b ∷ bytes) ≡ after_blanks bytes
after_blanks-blank b bytes is = rw (is, after_blanks) refl

-- another byte isn't
after_blanks-other : (b : ℕ) (bytes : List ℕ) → is_blank b ≡ false → after_blanks (b ∷ bytes) ≡ b ∷ bytes
after_blanks-other b bytes is = rw (is, after_blanks) refl

-- no more bytes stand after the blanks
pub after_blanks-short : (bytes : List ℕ) → length (after_blanks bytes) ≤ length bytes
after_blanks-short [] = omega arith
after_blanks-short (b ∷ bytes) =
    ⊎_elim
    (λ yes. omega (arith, ap length (after_blanks-blank b bytes yes), after_blanks-short bytes))
    (λ no. omega (arith, ap length (after_blanks-other b bytes no)))
    (cases_Bool (is_blank b))

-- some bytes aren't none
some_none : {b : ℕ} {bytes : List ℕ} → b ∷ bytes ≡ [] → ⊥
some_none same = cc

-- where nothing stands after the blanks, there are no other bytes
pub only_blanks : (bytes : List ℕ) → after_blanks bytes ≡ [] → Blanks bytes
only_blanks [] none = All-nil IsBlank
only_blanks (b ∷ bytes) none =
    ⊎_elim
    (λ yes. All-cons IsBlank b bytes yes (only_blanks bytes (sym (after_blanks-blank b bytes yes) ∙ none)))
    (λ no. absurd (some_none (sym (after_blanks-other b bytes no) ∙ none)))
    (cases_Bool (is_blank b))

-- and nothing stands after blanks alone
pub no_others : (bytes : List ℕ) → Blanks bytes → after_blanks bytes ≡ []
no_others [] are = refl
no_others (b ∷ bytes) are = after_blanks-blank b bytes (All-head IsBlank b bytes are) ∙ no_others bytes (All-tail IsBlank b bytes are)
