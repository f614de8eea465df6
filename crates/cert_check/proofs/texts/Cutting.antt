-- Words at the front of a text, and what is left after them.
use Rattle.std.proofs.Common.{◌≡◌, ◌≢◌, ◌+◌, ◌==◌, ◌++◌, ◌∷◌, [], ℕ, suc, Bool, true, false, not, cond, List, take, drop, inl, inr, arith, refl, ◌∙◌, sym, ap, subst}
use Rattle.std.specs.List.{prefix_len}
use Rattle.std.proofs.lemmas.Bool.{eqb-false, eqb-true, cases_Bool}
use Rattle.cert_check.specs.text.Text.{Word, space, spaced}
use Rattle.cert_check.specs.text.Reading.{is_in_word, IsUnspaced, EndsWord, IsFirstWord}
use Rattle.cert_check.proofs.texts.Separated.{Above, AreWords, first-of, later-of}

pub unspaced : (w : Word) → Above 32 w → IsUnspaced w
unspaced [] h = tt
unspaced (b ∷ w) h = let above = h.0 in ((λ e. omega arith), unspaced w h.1)

pub ends : (ws : List Word) → EndsWord (spaced ws)
ends [] = tt
ends (w ∷ ws) = refl

-- a word and what is left after it are parted in one way
pub word-same : (w v r s : List ℕ) → IsUnspaced w → IsUnspaced v → EndsWord r → EndsWord s → w ++ r ≡ v ++ s →
    (w ≡ v) × (r ≡ s)
word-same [] [] r s hw hv hr hs e = (refl, e)
word-same [] (y ∷ v) [] s hw hv hr hs e = absurd cc
word-same [] (y ∷ v) (b ∷ r) s hw hv hr hs e = absurd (hv.0 (sym (first-of e) ∙ hr))
word-same (x ∷ w) [] r [] hw hv hr hs e = absurd cc
word-same (x ∷ w) [] r (b ∷ s) hw hv hr hs e = absurd (hw.0 (first-of e ∙ hs))
word-same (x ∷ w) (y ∷ v) r s hw hv hr hs e =
    let later = word-same w v r s hw.1 hv.1 hr hs (later-of e) in
    let first : x ≡ y = first-of e in
    let rest : w ≡ v = later.0 in
    (cc, later.1)

-- the words of a text whose first word is known
pub record Split (word left : List ℕ) (ws : List Word) : Type 0 where
  pub later : List Word
  pub is : ws ≡ word ∷ later
  pub rest : spaced later ≡ left

pub first-split : (text word left : List ℕ) (ws : List Word) → IsFirstWord text word left → AreWords ws → spaced ws ≡ text →
    Split word left ws
first-split text word left [] h a e = let none : [] ≡ space ∷ (word ++ left) = e ∙ h.0 in absurd cc
first-split text word left (w ∷ ws) h a e =
    let both = word-same w word (spaced ws) left (unspaced w a.0) h.1.0 (ends ws) h.1.1 (later-of (e ∙ h.0)) in
    record { later = ws; is = ap (λ (v : Word). v ∷ ws) both.0; rest = both.1 }

pub first-of-list : {w a : Word} {ws later : List Word} → w ∷ ws ≡ a ∷ later → (w ≡ a) × (ws ≡ later)
first-of-list e = (cc, cc)

-- a text that begins with no space has no words
pub no-words : (text : List ℕ) (w : Word) (ws : List Word) → ((later : List ℕ) → text ≢ space ∷ later) →
    spaced (w ∷ ws) ≡ text → ⊥
no-words text w ws h e = h (w ++ spaced ws) (sym e)

stops : (b : Bool) (n : ℕ) → b ≡ true → cond (not b) (1 + n) 0 ≡ 0
stops true n e = refl
stops false n e = absurd cc

continues : (b : Bool) (n : ℕ) → b ≡ false → cond (not b) (1 + n) 0 ≡ suc n
continues true n e = absurd cc
continues false n e = omega arith

pub front-unspaced : (xs : List ℕ) → IsUnspaced (take (prefix_len is_in_word xs) xs)
front-unspaced [] = tt
front-unspaced (x ∷ xs) = elim (cases_Bool (x == 32)) [
  | inl h ↦ subst (λ (n : ℕ). IsUnspaced (take n (x ∷ xs))) (sym (stops (x == 32) (prefix_len is_in_word xs) h)) tt
  | inr h ↦ subst (λ (n : ℕ). IsUnspaced (take n (x ∷ xs))) (sym (continues (x == 32) (prefix_len is_in_word xs) h))
      ((λ e. eqb-false x 32 h e), front-unspaced xs)
]

pub left-ends : (xs : List ℕ) → EndsWord (drop (prefix_len is_in_word xs) xs)
left-ends [] = tt
left-ends (x ∷ xs) = elim (cases_Bool (x == 32)) [
  | inl h ↦ subst (λ (n : ℕ). EndsWord (drop n (x ∷ xs))) (sym (stops (x == 32) (prefix_len is_in_word xs) h)) (eqb-true x 32 h)
  | inr h ↦ subst (λ (n : ℕ). EndsWord (drop n (x ∷ xs))) (sym (continues (x == 32) (prefix_len is_in_word xs) h)) (left-ends xs)
]
