-- What is written as words is words, and says one thing.
use Rattle.std.proofs.Common.{◌≡◌, ◌<◌, ◌≤◌, ◌+◌, ◌-◌, ◌%◌, ◌^◌, ◌==◌, ◌++◌, ◌∷◌, [], ℕ, suc, ℤ, pos, negsuc, Bool, true, false, List, cond, inl, inr, arith, refl, ◌∙◌, sym, ap}
use Rattle.std.specs.Prelude.{codes, decimal, ◌⊎◌}
use Rattle.std.specs.Fmt.{signed_decimal}
use Rattle.std.proofs.lemmas.Bool.{eqb-false, eqb-true, cases_Bool}
use Rattle.std.proofs.lemmas.Fmt.{decimal_by_steps, signed_decimal_injective}
use lib.Signed.{mag}
use Rattle.cert_check.specs.text.Text.{Word, name_word}
use Rattle.cert_check.proofs.texts.Separated.{Above, Above-append}

pub decimal-above : (n : ℕ) → n < 2 ^ 64 → Above 32 (decimal n)
decimal-above n h =
    decimal_by_steps (λ n ds. Above 32 ds) (λ k l. (omega arith, tt))
    (λ k ds l rest. Above-append 32 ds ((48 + k % 10) ∷ []) rest (omega arith, tt)) n h

pub signed-above : (c : ℤ) → mag c < 2 ^ 63 → Above 32 (signed_decimal c)
signed-above (pos n) h = decimal-above n (omega arith)
signed-above (negsuc n) h = (omega arith, decimal-above (suc n) (omega arith))

above-if : (b : Bool) (t e : List ℕ) → Above 32 t → Above 32 e → Above 32 (cond b t e)
above-if true t e h k = h
above-if false t e h k = k

-- a name is one byte
abbrev pub name_byte : ℕ → ℕ
name_byte place = cond (place == 0) 48 (cond (place == 1) 46 (cond (place == 2) 36 (97 + (place - 6))))

byte-if : (b : Bool) (x y : ℕ) (t : List ℕ) → t ≡ y ∷ [] → cond b (x ∷ []) t ≡ cond b x y ∷ []
byte-if true x y t e = refl
byte-if false x y t e = e

pub name-byte : (place : ℕ) → name_word place ≡ name_byte place ∷ []
name-byte place = byte-if (place == 0) 48 _ _ (byte-if (place == 1) 46 _ _ (byte-if (place == 2) 36 _ _ refl))

pub name-above : (place : ℕ) → Above 32 (name_word place)
name-above place =
    above-if (place == 0) _ _ (omega arith, tt)
    (above-if (place == 1) _ _ (omega arith, tt) (above-if (place == 2) _ _ (omega arith, tt) (omega arith, tt)))

-- a name that texts have
abbrev pub Named : ℕ → Type 0
Named place = (place < 3) ⊎ (6 ≤ place)

-- which of the four kinds a name is
pub data Kind (place : ℕ) : Type 0 where
  zero_number : place ≡ 0 → name_byte place ≡ 48 → Kind place
  current : place ≡ 1 → name_byte place ≡ 46 → Kind place
  last : place ≡ 2 → name_byte place ≡ 36 → Kind place
  other : 3 ≤ place → name_byte place ≡ 97 + (place - 6) → Kind place

pub cond-true : {A : Type 0} (b : Bool) (x y : A) → b ≡ true → cond b x y ≡ x
cond-true true x y e = refl
cond-true false x y e = absurd cc

pub cond-false : {A : Type 0} (b : Bool) (x y : A) → b ≡ false → cond b x y ≡ y
cond-false true x y e = absurd cc
cond-false false x y e = refl

kind-of : (place : ℕ) → Kind place
kind-of place = elim (cases_Bool (place == 0)) [
  | inl h ↦ zero_number (eqb-true place 0 h) (cond-true (place == 0) _ _ h)
  | inr h ↦ elim (cases_Bool (place == 1)) [
    | inl k ↦ current (eqb-true place 1 k) (cond-false (place == 0) _ _ h ∙ cond-true (place == 1) _ _ k)
    | inr k ↦ elim (cases_Bool (place == 2)) [
      | inl l ↦ last (eqb-true place 2 l)
          (cond-false (place == 0) _ _ h ∙ cond-false (place == 1) _ _ k ∙ cond-true (place == 2) _ _ l)
      | inr l ↦ let a = eqb-false place 0 h in let b = eqb-false place 1 k in let d = eqb-false place 2 l in
          other (omega arith) (cond-false (place == 0) _ _ h ∙ cond-false (place == 1) _ _ k ∙ cond-false (place == 2) _ _ l)
    ]
  ]
]

same-kind : (x y : ℕ) → Named x → Named y → Kind x → Kind y → name_byte x ≡ name_byte y → x ≡ y
same-kind x y hx hy (zero_number a b) (zero_number p q) e = omega arith
same-kind x y hx hy (zero_number a b) (current p q) e = omega arith
same-kind x y hx hy (zero_number a b) (last p q) e = omega arith
same-kind x y hx hy (zero_number a b) (other p q) e = omega arith
same-kind x y hx hy (current a b) (zero_number p q) e = omega arith
same-kind x y hx hy (current a b) (current p q) e = omega arith
same-kind x y hx hy (current a b) (last p q) e = omega arith
same-kind x y hx hy (current a b) (other p q) e = omega arith
same-kind x y hx hy (last a b) (zero_number p q) e = omega arith
same-kind x y hx hy (last a b) (current p q) e = omega arith
same-kind x y hx hy (last a b) (last p q) e = omega arith
same-kind x y hx hy (last a b) (other p q) e = omega arith
same-kind x y hx hy (other a b) (zero_number p q) e = omega arith
same-kind x y hx hy (other a b) (current p q) e = omega arith
same-kind x y hx hy (other a b) (last p q) e = omega arith
same-kind x y hx hy (other a b) (other p q) e = omega arith

pub name-same : (x y : ℕ) → Named x → Named y → name_byte x ≡ name_byte y → x ≡ y
name-same x y hx hy e = same-kind x y hx hy (kind-of x) (kind-of y) e

-- the word of a bound
abbrev pub bound_word : (x y : ℕ) → ℤ → Word
bound_word x y c = name_word x ++ codes "-" ++ name_word y ++ codes "<=" ++ signed_decimal c

pub bound-above : (x y : ℕ) (c : ℤ) → mag c < 2 ^ 63 → Above 32 (bound_word x y c)
bound-above x y c h =
    Above-append 32 (name_word x ++ codes "-" ++ name_word y ++ codes "<=") (signed_decimal c)
    (Above-append 32 (name_word x ++ codes "-" ++ name_word y) (codes "<=")
    (Above-append 32 (name_word x ++ codes "-") (name_word y) (Above-append 32 (name_word x) (codes "-") (name-above x) (omega arith, tt))
    (name-above y))
    (omega arith, (omega arith, tt)))
    (signed-above c h)

bound-bytes : (x y : ℕ) (c : ℤ) → bound_word x y c ≡ name_byte x ∷ 45 ∷ name_byte y ∷ 60 ∷ 61 ∷ signed_decimal c
bound-bytes x y c =
    ap (λ (w : Word). w ++ codes "-" ++ name_word y ++ codes "<=" ++ signed_decimal c) (name-byte x)
    ∙ ap (λ (w : Word). (name_byte x ∷ []) ++ codes "-" ++ w ++ codes "<=" ++ signed_decimal c) (name-byte y)

first-same : {a1 a2 b1 b2 : ℕ} {r s : List ℕ} → a1 ∷ 45 ∷ a2 ∷ 60 ∷ 61 ∷ r ≡ b1 ∷ 45 ∷ b2 ∷ 60 ∷ 61 ∷ s →
    (a1 ≡ b1) × ((a2 ≡ b2) × (r ≡ s))
first-same e = (cc, (cc, cc))

pub record SameBound (x y : ℕ) (c : ℤ) (p q : ℕ) (d : ℤ) : Type 0 where
  pub row : x ≡ p
  pub column : y ≡ q
  pub number : c ≡ d

pub bound-same : (x y : ℕ) (c : ℤ) (p q : ℕ) (d : ℤ) → Named x → Named y → Named p → Named q → mag c < 2 ^ 63 →
    mag d < 2 ^ 63 → bound_word x y c ≡ bound_word p q d → SameBound x y c p q d
bound-same x y c p q d hx hy hp hq hc hd e =
    let parts = first-same (sym (bound-bytes x y c) ∙ e ∙ bound-bytes p q d) in
    record {
      row = name-same x p hx hp parts.0;
      column = name-same y q hy hq parts.1.0;
      number = signed_decimal_injective c d hc hd parts.1.1;
    }
