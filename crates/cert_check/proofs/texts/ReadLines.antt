-- What the readers of lines rest on.
use Rattle.std.proofs.Common.{◌≡◌, ◌≢◌, ◌<◌, ◌^◌, ◌++◌, ◌∷◌, [], ℕ, true, false, ◌&&◌, List, Option, None, Some, refl, ◌∙◌, sym, ap, subst}
use Rattle.std.specs.Prelude.{codes, decimal}
use Rattle.std.proofs.lemmas.Fmt.{decimal_injective}
use Rattle.std.proofs.lemmas.List.{append_cancel_left}
use Rattle.std.proofs.lemmas.Bool.{and_parts}
use Rattle.ed_rules.specs.LineBounds.{is_few, is_limit}
use Rattle.cert_check.specs.text.Text.{Word, space, spaced, line_text, limit_word, bounds_line}
use Rattle.cert_check.specs.text.Reading.{IsFirstWord}
use Rattle.cert_check.proofs.texts.Separated.{Above, AreWords, later-of}
use Rattle.cert_check.proofs.texts.Worded.{decimal-above}
use Rattle.cert_check.proofs.texts.OneText.{few, limit-above, limit-same}
use Rattle.cert_check.proofs.texts.Cutting.{unspaced, word-same, first-split, first-of-list, no-words}

-- a limit that is too high is no other limit
pub limit-unread : (word : List ℕ) (number : ℕ) → (codes "any" ≡ word → ⊥) → decimal number ≡ word → number < 2 ^ 64 →
    is_limit (Some number) ≡ false → (v : Option ℕ) → is_limit v ≡ true → limit_word v ≡ word → ⊥
limit-unread word number apart d l high None h e = apart e
limit-unread word number apart d l high (Some n) h e =
    let same : n ≡ number = decimal_injective n number (few n h) l (e ∙ sym d) in
    let low : is_few number ≡ true = subst (λ (k : ℕ). is_few k ≡ true) same h in
    absurd cc

-- the two words of a line after its key, where it has two
pub record TwoWords (w v a b left : List ℕ) : Type 0 where
  pub first : w ≡ a
  pub second : v ≡ b
  pub none_left : [] ≡ left

pub one-word : (key line left a l2 : List ℕ) (w : Word) (ws : List Word) → line ≡ key ++ left → IsFirstWord left a l2 →
    Above 32 w → AreWords ws → line_text (key ∷ w ∷ ws) ≡ line → (w ≡ a) × (spaced ws ≡ l2)
one-word key line left a l2 w ws is h hw hws e =
    let rest : spaced (w ∷ ws) ≡ left = append_cancel_left key (spaced (w ∷ ws)) left (e ∙ is) in
    let split = first-split left a l2 (w ∷ ws) h (hw, hws) rest in
    let both = first-of-list split.is in
    (both.0, ap (λ (vs : List Word). spaced vs) both.1 ∙ split.rest)

pub no-word : (key line left : List ℕ) (w : Word) (ws : List Word) → line ≡ key ++ left →
    ((later : List ℕ) → left ≢ space ∷ later) → line_text (key ∷ w ∷ ws) ≡ line → ⊥
no-word key line left w ws is absent e = no-words left w ws absent (append_cancel_left key (spaced (w ∷ ws)) left (e ∙ is))

pub two-words : (key line left a l2 b l3 : List ℕ) (w v : Word) → line ≡ key ++ left → IsFirstWord left a l2 →
    IsFirstWord l2 b l3 → Above 32 w → Above 32 v → line_text (key ∷ w ∷ v ∷ []) ≡ line → TwoWords w v a b l3
two-words key line left a l2 b l3 w v is h k hw hv e =
    let first = one-word key line left a l2 w (v ∷ []) is h hw (hv, tt) e in
    let split = first-split l2 b l3 (v ∷ []) k (hv, tt) first.1 in
    let both = first-of-list split.is in
    record { first = first.0; second = both.0; none_left = ap (λ (vs : List Word). spaced vs) both.1 ∙ split.rest }

-- the words of bounds
pub bounds-words : (low : ℕ) (high : Option ℕ) → (is_few low && is_limit high) ≡ true →
    Above 32 (decimal low) × Above 32 (limit_word high)
bounds-words low high h =
    let both = and_parts (is_few low) (is_limit high) h in
    (decimal-above low (few low both.0), limit-above high both.1)

-- bounds are read from their words in one way
pub bounds-same : (a c : ℕ) (b d : Option ℕ) (low high : List ℕ) → (is_few a && is_limit b) ≡ true → c < 2 ^ 64 →
    is_limit d ≡ true → decimal a ≡ low → limit_word b ≡ high → decimal c ≡ low → limit_word d ≡ high →
    (a ≡ c) × (b ≡ d)
bounds-same a c b d low high h l k ea eb ec ed =
    let both = and_parts (is_few a) (is_limit b) h in
    (decimal_injective a c (few a both.0) l (ea ∙ sym ec), limit-same b d both.1 k (eb ∙ sym ed))

pub bounds-line-same : (key : List ℕ) (a c : ℕ) (b d : Option ℕ) → (is_few a && is_limit b) ≡ true →
    (is_few c && is_limit d) ≡ true → line_text (bounds_line key a b) ≡ line_text (bounds_line key c d) → (a ≡ c) × (b ≡ d)
bounds-line-same key a c b d h k e =
    let one = bounds-words a b h in
    let other = bounds-words c d k in
    let limits = and_parts (is_few c) (is_limit d) k in
    let first = word-same (decimal a) (decimal c) (spaced (limit_word b ∷ [])) (spaced (limit_word d ∷ [])) (unspaced (decimal a) one.0)
    (unspaced (decimal c) other.0) refl refl
    (later-of (append_cancel_left key (spaced (decimal a ∷ limit_word b ∷ [])) (spaced (decimal c ∷ limit_word d ∷ [])) e)) in
    let second = word-same (limit_word b) (limit_word d) [] [] (unspaced (limit_word b) one.1) (unspaced (limit_word d) other.1) tt tt
    (later-of first.1) in
    bounds-same a c b d (decimal c) (limit_word d) h (few c limits.0) limits.1 first.0 second.0 refl refl
