-- Landmarks are placed one after another.
use Rattle.std.proofs.Common.{◌≡◌, ◌<◌, ◌≤◌, ◌+◌, ℕ, List, [], ◌∷◌, ◌++◌, length, take, drop, get_or, ◌∙◌, sym, ap, subst, arith}
use Rattle.std.proofs.lemmas.List.{take-append-drop, drop_more, take_more, take_all, length-take-le}
use Rattle.landmarks.specs.declared.landmark.Landmark.{Landmark}
use Rattle.landmarks.specs.declared.misplaced.Misfit.{Misfit}
use Rattle.landmarks.specs.Places.{IsAt, AreAt, last_of}
use Rattle.landmarks.specs.Misplaced.{IsWrong, IsMisplaced}
use Rattle.landmarks.proofs.Placed.{placed-more, last-more}

-- what a loop keeps of the landmarks before the next one
pub record Kept (lines : List (List ℕ)) (chain : List Landmark) (index : ℕ) (places : List ℕ) (before : ℕ) : Type 0 where
  pub placed : AreAt lines 0 (take index chain) places
  pub last : last_of 0 places ≡ before

pub placed-next : (lines : List (List ℕ)) (chain : List Landmark) (index : ℕ) (landmark : Landmark) (places more : List ℕ) (place before : ℕ) → index < length chain →
    landmark ≡ get_or chain index landmark → AreAt lines 0 (take index chain) places → last_of 0 places ≡ before → IsAt lines before landmark place →
    more ≡ places ++ place ∷ [] → Kept lines chain (index + 1) more place
placed-next lines chain index landmark places more place before h is placed last at added =
    let there : IsAt lines (last_of 0 places) landmark place = subst (λ n. IsAt lines n landmark place) (sym last) at in
    let one = placed-more lines 0 (take index chain) places landmark place placed there in
    let front : take index chain ++ landmark ∷ [] ≡ take (index + 1) chain =
    ap (λ (l : Landmark). take index chain ++ l ∷ []) is ∙ sym (take_more chain index landmark h) in
    record {
      placed = subst (λ (ps : List ℕ). AreAt lines 0 (take (index + 1) chain) ps) (sym added) (subst (λ (ls : List Landmark). AreAt lines 0 ls (places ++ place ∷ [])) front one);
      last = ap (last_of 0) added ∙ last-more 0 places place;
    }

pub wrong-here : (lines : List (List ℕ)) (chain : List Landmark) (index told : ℕ) (landmark : Landmark) (places : List ℕ) (before : ℕ) (why : Misfit) → index < length chain →
    landmark ≡ get_or chain index landmark → AreAt lines 0 (take index chain) places → last_of 0 places ≡ before → IsWrong lines before landmark why → told ≡ index →
    IsMisplaced lines chain (record { index = told; before = before; why = why })
wrong-here lines chain index told landmark places before why h is placed last wrong counted = record {
  front = take index chain;
  landmark = landmark;
  rest = drop (index + 1) chain;
  cut = sym (take-append-drop index chain) ∙ ap (λ (ls : List Landmark). take index chain ++ ls) (drop_more chain index landmark h)
      ∙ ap (λ (l : Landmark). take index chain ++ l ∷ drop (index + 1) chain) (sym is);
  index = length-take-le index chain (omega (arith, h)) ∙ sym counted;
  places = places;
  placed = placed;
  before = last;
  why = wrong;
}

pub placed-all : (lines : List (List ℕ)) (chain : List Landmark) (index : ℕ) (places : List ℕ) → length chain ≤ index → AreAt lines 0 (take index chain) places →
    AreAt lines 0 chain places
placed-all lines chain index places h placed = subst (λ (ls : List Landmark). AreAt lines 0 ls places) (take_all index chain h) placed
