-- Landmarks that are the same.
use Rattle.std.proofs.Common.{◌≡◌, ℕ, Bool, ◌&&◌, nat_eq, List, [], sym, ap, subst, ◌∙◌}
use Rattle.std.specs.Bool.{Decides}
use Rattle.std.specs.Cmp.Lexicographic.{pointwise, bytes_decides}
use Rattle.std.proofs.lemmas.Bool.{and_from, and_parts}
use Rattle.std.proofs.lemmas.Slice.Eq.{slice_eq-Decides}
use Rattle.landmarks.specs.declared.landmark.Landmark.{Landmark}
use Rattle.landmarks.specs.declared.which.Which.{Which}
use Rattle.landmarks.specs.declared.which.Which.TheVariants.{First, Only, Numbered}
use Rattle.landmarks.specs.Spelled.{SpellsChain}
use Rattle.landmarks.proofs.Chains.{landmark-same}

pub sets_decide : (one other : List (List ℕ)) (r : Bool) → r ≡ pointwise (pointwise nat_eq) one other → Decides r (one ≡ other)
sets_decide one other r is = slice_eq-Decides bytes_decides one other r is

pub landmark_decides : (one other : Landmark) (none which gap tail also lacks : Bool) → Decides none (one.none ≡ other.none) →
    Decides which (one.which ≡ other.which) → Decides gap (one.gap ≡ other.gap) → Decides tail (one.tail ≡ other.tail) →
    Decides also (one.also ≡ other.also) → Decides lacks (one.lacks ≡ other.lacks) →
    Decides (none && which && gap && tail && also && lacks) (one ≡ other)
landmark_decides one other none which gap tail also lacks n w g t a l = (
  λ h.
      let five = and_parts (none && which && gap && tail && also) lacks h in
      let four = and_parts (none && which && gap && tail) also five.0 in
      let three = and_parts (none && which && gap) tail four.0 in
      let two = and_parts (none && which) gap three.0 in
      let first = and_parts none which two.0 in
      landmark-same one other (n.0 first.0) (w.0 first.1) (g.0 two.1) (t.0 three.1) (a.0 four.1) (l.0 five.1),
  λ same.
      and_from (none && which && gap && tail && also) lacks
      (and_from (none && which && gap && tail) also
      (and_from (none && which && gap) tail
      (and_from (none && which) gap
      (and_from none which (n.1 (ap (λ (x : Landmark). x.none) same)) (w.1 (ap (λ (x : Landmark). x.which) same)))
      (g.1 (ap (λ (x : Landmark). x.gap) same)))
      (t.1 (ap (λ (x : Landmark). x.tail) same)))
      (a.1 (ap (λ (x : Landmark). x.also) same)))
      (l.1 (ap (λ (x : Landmark). x.lacks) same)),
)

abbrev pattern_of : Which → List ℕ
pattern_of (First p) = p
pattern_of (Only p) = p
pattern_of (Numbered n) = []

abbrev number_of : Which → ℕ
number_of (Numbered n) = n
number_of _ = 0

pub first_decides : (p q : List ℕ) (r : Bool) → r ≡ pointwise nat_eq p q → Decides r (First p ≡ First q)
first_decides p q r is = (λ h. ap (λ (x : List ℕ). First x) ((bytes_decides p q).0 (sym is ∙ h)), λ same. is ∙ (bytes_decides p q).1 (ap pattern_of same))

pub only_decides : (p q : List ℕ) (r : Bool) → r ≡ pointwise nat_eq p q → Decides r (Only p ≡ Only q)
only_decides p q r is = (λ h. ap (λ (x : List ℕ). Only x) ((bytes_decides p q).0 (sym is ∙ h)), λ same. is ∙ (bytes_decides p q).1 (ap pattern_of same))

pub numbered_decides : (m n : ℕ) (r : Bool) → Decides r (m ≡ n) → Decides r (Numbered m ≡ Numbered n)
numbered_decides m n r d = (λ h. ap (λ (x : ℕ). Numbered x) (d.0 h), λ same. d.1 (ap number_of same))

-- what a text spells an equal text spells
pub spells_same : (text copy : List ℕ) (chain copied : List Landmark) → copy ≡ text → copied ≡ chain → SpellsChain text chain → SpellsChain copy copied
spells_same text copy chain copied is are spells =
    subst (λ (t : List ℕ). SpellsChain t copied) (sym is) (subst (λ (c : List Landmark). SpellsChain text c) (sym are) spells)
