-- Ways that a list keeps in a few words each.
use Rattle.std.proofs.Common.{◌≡◌, ℕ, zero, suc, ◌+◌, ◌<◌, List, [], ◌∷◌, ◌++◌, length, get_or, take, drop, replicate, true, refl, ap, sym, ◌∙◌, append_assoc, arith}
use Rattle.std.proofs.lemmas.List.{drop_more, take_more, map-append}
use Rattle.std.proofs.lemmas.Bool.Decides.{nat_tests}
use Rattle.std.specs.Prelude.{nat_eq}
use Rattle.bre_parse.specs.Groups.{Groups}
use Rattle.bre_parse.specs.Ways.{Way}
use Rattle.bre_match.specs.Alike.{same_span, same_asked, alike}
use Rattle.bre_match.specs.Listed.{nowhere}
use Rattle.bre_match.specs.Order.{picked}
use Rattle.bre_match.proofs.Likeness.{both_left, both_right, span_same}

same_groups : (n : ℕ) (ones others : Groups) → same_asked (replicate n true) ones others ≡ true → ones ≡ others
same_groups n [] [] e = refl
same_groups n [] (h ∷ hs) e = absurd cc
same_groups zero (g ∷ gs) [] e = absurd cc
same_groups (suc n) (g ∷ gs) [] e = absurd cc
same_groups zero (g ∷ gs) (h ∷ hs) e =
    let a = span_same g h (both_left (same_span g h) (same_asked [] gs hs) e) in
    let b = same_groups zero gs hs (both_right (same_span g h) (same_asked [] gs hs) e) in
    ap (λ x. x ∷ gs) a ∙ ap (λ l. h ∷ l) b
same_groups (suc n) (g ∷ gs) (h ∷ hs) e =
    let a = span_same g h (both_left (same_span g h) (same_asked (replicate n true) gs hs) e) in
    let b = same_groups n gs hs (both_right (same_span g h) (same_asked (replicate n true) gs hs) e) in
    ap (λ x. x ∷ gs) a ∙ ap (λ l. h ∷ l) b

-- ways of which all groups are asked for are alike only if they are the same
pub same_way : (one other : Way) → alike (replicate 9 true) one other ≡ true → one ≡ other
same_way one other e =
    let c = both_left (nat_eq one.0 other.0) (same_asked (replicate 9 true) one.1 other.1) e in
    let a : one.0 ≡ other.0 = grind (arith, nat_tests) in
    let b = same_groups 9 one.1 other.1 (both_right (nat_eq one.0 other.0) (same_asked (replicate 9 true) one.1 other.1) e) in
    ap (λ n. (n, one.1)) a ∙ ap (λ g. (other.0, g)) b

-- one way more is put after others
pub list_step : (ws old now new : List Way) (at : ℕ) (w : Way) → at < length ws → w ≡ get_or ws at nowhere → new ≡ now ++ w ∷ [] → now ≡ old ++ take at ws → new ≡ old ++ take (at + 1) ws
list_step ws old now new at w h is put i =
    put
    ∙ ap (λ l. l ++ w ∷ []) i
    ∙ append_assoc old (take at ws) (w ∷ [])
    ∙ ap (λ x. old ++ (take at ws ++ x ∷ [])) is
    ∙ ap (λ l. old ++ l) (sym (take_more ws at nowhere h))

-- the next way of a list, and those after it
pub from_there : (ws : List Way) (at : ℕ) (w : Way) → at < length ws → w ≡ get_or ws at nowhere → drop at ws ≡ w ∷ drop (at + 1) ws
from_there ws at w h is = drop_more ws at nowhere h ∙ ap (λ x. x ∷ drop (at + 1) ws) (sym is)

-- the way that stands at a place that is picked
pub picked_at : (ws : List Way) (ps : List ℕ) (i : ℕ) (w : Way) → i < length ps → w ≡ get_or ws (get_or ps i 0) nowhere → get_or (picked ws ps) i w ≡ w
picked_at ws [] i w h is = absurd (omega arith)
picked_at ws (x ∷ ps) zero w h is = sym is
picked_at ws (x ∷ ps) (suc i) w h is = picked_at ws ps i w (omega arith) is

pub picked_more : (ws : List Way) (ps : List ℕ) (p : ℕ) → picked ws (ps ++ p ∷ []) ≡ picked ws ps ++ get_or ws p nowhere ∷ []
picked_more ws ps p = map-append (λ at. get_or ws at nowhere) ps (p ∷ [])

pub picked_length : (ws : List Way) (ps : List ℕ) → length (picked ws ps) ≡ length ps
picked_length ws [] = refl
picked_length ws (p ∷ ps) = ap suc (picked_length ws ps)

pub picked_drop : (ws : List Way) (n : ℕ) (ps : List ℕ) → picked ws (drop n ps) ≡ drop n (picked ws ps)
picked_drop ws zero ps = refl
picked_drop ws (suc n) [] = refl
picked_drop ws (suc n) (p ∷ ps) = picked_drop ws n ps

-- the places of a list's first ways, one more
pub places_step : (ws : List Way) (ps new : List ℕ) (at : ℕ) → at < length ws → new ≡ ps ++ at ∷ [] → picked ws ps ≡ take at ws → picked ws new ≡ take (at + 1) ws
places_step ws ps new at h put i =
    ap (picked ws) put ∙ picked_more ws ps at ∙ ap (λ l. l ++ get_or ws at nowhere ∷ []) i ∙ sym (take_more ws at nowhere h)
