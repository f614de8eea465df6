-- What a zone says, says which zone it is.
use Rattle.std.proofs.Common.{◌≡◌, ◌<◌, ◌+◌, ◌-◌, ◌/◌, ◌%◌, ◌^◌, ◌==◌, ◌++◌, ◌∷◌, [], ℕ, zero, suc, ℤ, pos, negsuc, Bool, true, ◌&&◌, List, length, get_or, Option, None, Some, inl, inr, arith, refl, ◌∙◌, sym, ap, subst}
use Rattle.std.specs.Prelude.{nat_lt, nat_le}
use Rattle.std.proofs.lemmas.Bool.{ltb-true, leb-true, and_parts, or_cases, not-true, cases_Bool}
use Rattle.std.proofs.lemmas.Int.{ints}
use lib.Signed.{mag}
use Rattle.zones.specs.Bound.{IsKept}
use Rattle.zones.specs.Zone.{Bounds}
use Rattle.zones.specs.Steps.{any_bound}
use Rattle.ed_rules.specs.Marks.{is_sure}
use Rattle.ed_rules.specs.Formed.{says_nothing}
use Rattle.cert_check.specs.text.Text.{Word, bound_words, bounds_words}
use Rattle.ed_rules.specs.Formed.{has_name, may_say, ZoneIsFormed}
use Rattle.cert_check.proofs.texts.Separated.{AreWords, AreWords-append}
use Rattle.cert_check.proofs.texts.Worded.{Named, cond-true, cond-false, bound_word, bound-above, bound-same}

-- a bound is left out, or is a number that is written between two names
pub data Said (x y : ℕ) (b : Option ℤ) : Type 0 where
  silent : b ≡ any_bound x y → bound_words x y b ≡ [] → Said x y b
  spoken : (c : ℤ) → b ≡ Some c → bound_words x y b ≡ bound_word x y c ∷ [] → Named x → Named y → mag c < 2 ^ 63 →
      Said x y b

pub named : (marks : List Bool) (x : ℕ) → has_name marks x ≡ true → Named x
named marks x e = elim (or_cases (nat_lt x 3) (nat_le 6 x && is_sure marks (x - 6)) e) [
  | inl h ↦ inl (ltb-true x 3 h)
  | inr h ↦ inr (let six = and_parts (nat_le 6 x) (is_sure marks (x - 6)) h in leb-true 6 x six.0)
]

pub nothing : (x y : ℕ) (c : ℤ) → says_nothing x y c ≡ true → Some c ≡ any_bound x y
nothing x y (pos zero) e = sym (cond-true (x == y) (Some (pos 0)) None e)
nothing x y (pos (suc n)) e = absurd cc
nothing x y (negsuc n) e = absurd cc

pub small : (c : ℤ) → IsKept (Some c) → mag c < 2 ^ 63
small (pos n) k = let high = k.1 in omega (arith, ints)
small (negsuc n) k = let low = k.0 in omega (arith, ints)

pub said : (marks : List Bool) (x y : ℕ) (b : Option ℤ) → may_say marks x y b ≡ true → IsKept b → Said x y b
said marks x y None e k = silent (sym (cond-false (x == y) (Some (pos 0)) None (not-true (x == y) e))) refl
said marks x y (Some c) e k = elim (cases_Bool (says_nothing x y c)) [
  | inl h ↦ silent (nothing x y c h) (cond-true (says_nothing x y c) [] _ h)
  | inr h ↦
      let names = elim (or_cases (says_nothing x y c) (has_name marks x && has_name marks y) e) as (λ _. has_name marks x && has_name marks
      y ≡ true) [
        | inl t ↦ absurd cc
        | inr t ↦ t
      ] in
      let both = and_parts (has_name marks x) (has_name marks y) names in
      spoken c refl (cond-false (says_nothing x y c) [] _ h) (named marks x both.0) (named marks y both.1) (small c k)
]

-- the same of all bounds from a place on
abbrev pub AllSaid : ℕ → Bounds → Type 0
AllSaid p [] = Unit {0}
AllSaid p (b ∷ bounds) = Said (p / 32) (p % 32) b × AllSaid (suc p) bounds

said-from : (marks : List Bool) (p : ℕ) (bounds : Bounds) →
    ((k : ℕ) → k < length bounds → may_say marks ((p + k) / 32) ((p + k) % 32) (get_or bounds k None) ≡ true) →
    ((k : ℕ) → IsKept (get_or bounds k None)) → AllSaid p bounds
said-from marks p [] says kept = tt
said-from marks p (b ∷ bounds) says kept =
    let at : p + 0 ≡ p = omega arith in
    let here : may_say marks (p / 32) (p % 32) b ≡ true =
    subst (λ (q : ℕ). may_say marks (q / 32) (q % 32) b ≡ true) at (says 0 (omega arith)) in
    let later = λ (k : ℕ) (h : k < length bounds).
    subst (λ (q : ℕ). may_say marks (q / 32) (q % 32) (get_or bounds k None) ≡ true)
    (let e : p + suc k ≡ suc p + k = omega arith in e) (says (suc k) (omega arith)) in
    (said marks (p / 32) (p % 32) b here (kept 0), said-from marks (suc p) bounds later (λ k. kept (suc k)))

pub zone-said : (marks : List Bool) (zone : Bounds) → ZoneIsFormed marks zone → AllSaid 0 zone
zone-said marks zone h =
    let size = h.is_zone.size in
    said-from marks 0 zone
    (λ k l. let e : 0 + k ≡ k = omega arith in
    subst (λ (q : ℕ). may_say marks (q / 32) (q % 32) (get_or zone k None) ≡ true) (sym e) (h.says k (omega arith)))
    h.is_zone.kept

words-of : (x y : ℕ) (b : Option ℤ) → Said x y b → AreWords (bound_words x y b)
words-of x y b (silent is none) = subst (λ (ws : List Word). AreWords ws) (sym none) tt
words-of x y b (spoken c is one hx hy hc) = subst (λ (ws : List Word). AreWords ws) (sym one) (bound-above x y c hc, tt)

pub bounds-are-words : (p : ℕ) (bounds : Bounds) → AllSaid p bounds → AreWords (bounds_words p bounds)
bounds-are-words p [] h = tt
bounds-are-words p (b ∷ bounds) h =
    AreWords-append (bound_words (p / 32) (p % 32) b) (bounds_words (suc p) bounds) (words-of _ _ b h.0)
    (bounds-are-words (suc p) bounds h.1)

-- what is said after a place isn't what is said at the place
pub later-differ : (p q : ℕ) (c : ℤ) (bounds : Bounds) (rest : List Word) → q < p → Named (q / 32) → Named (q % 32) →
    mag c < 2 ^ 63 → AllSaid p bounds → bounds_words p bounds ≡ bound_word (q / 32) (q % 32) c ∷ rest → ⊥
later-differ p q c [] rest l hx hy hc h e = absurd cc
later-differ p q c (b ∷ bounds) rest l hx hy hc h e =
    elim h.0 [
      | silent is none ↦
          later-differ (suc p) q c bounds rest (omega arith) hx hy hc h.1
          (ap (λ (ws : List Word). ws ++ bounds_words (suc p) bounds) (sym none) ∙ e)
      | spoken d is one px py pc ↦
          let words : bound_word (p / 32) (p % 32) d ∷ bounds_words (suc p) bounds ≡ bound_word (q / 32) (q % 32) c ∷ rest =
          ap (λ (ws : List Word). ws ++ bounds_words (suc p) bounds) (sym one) ∙ e in
          let first : bound_word (p / 32) (p % 32) d ≡ bound_word (q / 32) (q % 32) c = cc in
          let same = bound-same (p / 32) (p % 32) d (q / 32) (q % 32) c px py hx hy pc hc first in
          let row = same.row in let column = same.column in omega arith
    ]

pub bounds-same : (p : ℕ) (a b : Bounds) → length a ≡ length b → AllSaid p a → AllSaid p b →
    bounds_words p a ≡ bounds_words p b → a ≡ b
bounds-same p [] [] l h k e = refl
bounds-same p [] (y ∷ b) l h k e = absurd (omega arith)
bounds-same p (x ∷ a) [] l h k e = absurd (omega arith)
bounds-same p (x ∷ a) (y ∷ b) l h k e =
    let size : length a ≡ length b = omega arith in
    elim h.0 [
      | silent is none ↦ elim k.0 [
        | silent was gone ↦
            let first : x ≡ y = is ∙ sym was in
            let words : bounds_words (suc p) a ≡ bounds_words (suc p) b =
            ap (λ (ws : List Word). ws ++ bounds_words (suc p) a) (sym none) ∙ e
            ∙ ap (λ (ws : List Word). ws ++ bounds_words (suc p) b) gone in
            let rest : a ≡ b = bounds-same (suc p) a b size h.1 k.1 words in
            cc
        | spoken d was one px py pc ↦
            absurd (later-differ (suc p) p d a (bounds_words (suc p) b) (omega arith) px py pc h.1
            (ap (λ (ws : List Word). ws ++ bounds_words (suc p) a) (sym none) ∙ e
            ∙ ap (λ (ws : List Word). ws ++ bounds_words (suc p) b) one))
      ]
      | spoken c is one hx hy hc ↦ elim k.0 [
        | silent was gone ↦
            absurd (later-differ (suc p) p c b (bounds_words (suc p) a) (omega arith) hx hy hc k.1
            (ap (λ (ws : List Word). ws ++ bounds_words (suc p) b) (sym gone) ∙ sym e
            ∙ ap (λ (ws : List Word). ws ++ bounds_words (suc p) a) one))
        | spoken d was two px py pc ↦
            let words : bound_word (p / 32) (p % 32) c ∷ bounds_words (suc p) a ≡ bound_word (p / 32) (p % 32) d ∷ bounds_words
            (suc p) b =
            ap (λ (ws : List Word). ws ++ bounds_words (suc p) a) (sym one) ∙ e
            ∙ ap (λ (ws : List Word). ws ++ bounds_words (suc p) b) two in
            let word : bound_word (p / 32) (p % 32) c ≡ bound_word (p / 32) (p % 32) d = cc in
            let later : bounds_words (suc p) a ≡ bounds_words (suc p) b = cc in
            let same = bound-same (p / 32) (p % 32) c (p / 32) (p % 32) d hx hy px py hc pc word in
            let rest : a ≡ b = bounds-same (suc p) a b size h.1 k.1 later in
            let first : x ≡ y = is ∙ ap (λ (n : ℤ). Some n) same.number ∙ sym was in
            cc
      ]
    ]
