-- Files of which no two are one, with one more; and the draft or the planned path that a search has come to.
use Rattle.std.proofs.Common.{◌≡◌, ◌∙◌, ◌≢◌, ◌||◌, ◌<◌, ℕ, suc, true, List, [], ◌∷◌, ◌++◌, length, get_or, drop, drop-cons, map, nat_eq, refl, ap, sym, subst, Some}
use Rattle.std.specs.Prelude.{All, string_bytes}
use Rattle.std.specs.Cmp.Lexicographic.{pointwise}
use Rattle.std.proofs.lemmas.List.{map-append}
use Rattle.std.proofs.lemmas.List.Elements.{All-nil, All-head, All-tail, All-push}
use Rattle.whole.specs.OneFile.{AreDifferent, draft_at, planned_paths}
use Rattle.whole.specs.Paths.{is_in}
use Rattle.whole.specs.declared.beside.Beside.{Beside}
use Rattle.whole.specs.declared.file_identity.FileIdentity.{FileIdentity}
use Rattle.whole.specs.declared.planned.Planned.{Planned}

-- one more, of another file
different-more : {A : Type 0} (of : A → FileIdentity) (all : List A) (one : A) → AreDifferent (map of all) →
    All (λ other. of other ≢ of one) all → AreDifferent (map of (all ++ one ∷ []))
different-more of [] one different others = (All-nil (λ (other : FileIdentity). other ≢ of one), tt)
different-more of (first ∷ all) one different others =
    let Other = λ (other : FileIdentity). other ≢ of first in
    let last : of one ≢ of first = λ e. All-head (λ other. of other ≢ of one) first all others (sym e) in
    let mapped : map of (all ++ one ∷ []) ≡ map of all ++ of one ∷ [] =
    map-append of all (one ∷ []) in (
      subst (All Other) (sym mapped) (All-push Other (map of all) (of one) different.0 last),
      different-more of all one different.1 (All-tail (λ other. of other ≢ of one) first all others),
    )

-- one more after a call that keeps those that are there
pub different-after : {A : Type 0} (of : A → FileIdentity) (before kept more : List A) (one : A) → AreDifferent (map of before) →
    All (λ other. of other ≢ of one) before → kept ≡ before → more ≡ kept ++ one ∷ [] → AreDifferent (map of more)
different-after of before kept more one different others same added =
    subst (λ these. AreDifferent (map of these)) (sym (added ∙ ap (λ these. these ++ one ∷ []) same))
    (different-more of before one different others)

-- the draft that a search has come to
pub draft-here : (path : List ℕ) (drafts : List Beside) (i : ℕ) (draft : Beside) → i < length drafts → draft ≡ get_or drafts i draft →
    pointwise nat_eq (string_bytes draft.path) path ≡ true → draft_at path (drop i drafts) ≡ Some draft
draft-here path drafts i draft within is equal =
    let after : drop i drafts ≡ draft ∷ drop (suc i) drafts = drop-cons drafts i draft within ∙ ap (λ d. d ∷ drop (suc i) drafts) (sym is) in
    rw (after, equal, draft_at) refl

-- the planned path that a search has come to
pub planned-here : (path : List ℕ) (planned : List Planned) (i : ℕ) (one : Planned) → i < length planned → one ≡ get_or planned i one →
    pointwise nat_eq (string_bytes one.path) path ≡ true → is_in path (planned_paths (drop i planned)) ≡ true
planned-here path planned i one within is equal =
    let after : drop i planned ≡ one ∷ drop (suc i) planned = drop-cons planned i one within ∙ ap (λ d. d ∷ drop (suc i) planned) (sym is) in
    ap (λ these. is_in path (planned_paths these)) after ∙ ap (λ b. b || is_in path (planned_paths (drop (suc i) planned))) equal

-- one more planned path, which isn't one of those before it
pub planned-more : (before kept more : List Planned) (one : Planned) (path : List ℕ) → kept ≡ before → more ≡ kept ++ one ∷ [] → string_bytes one.path ≡ path →
    planned_paths more ≡ planned_paths before ++ path ∷ []
planned-more before kept more one path same added at =
    ap planned_paths (added ∙ ap (λ these. these ++ one ∷ []) same)
    ∙ (map-append (λ (p : Planned). string_bytes p.path) before (one ∷ []) ∙ ap (λ p. planned_paths before ++ p ∷ []) at)
