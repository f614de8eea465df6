-- What was found at a path is what a search comes to, and the paths that a search has passed don't matter.
use Rattle.std.proofs.Common.{drop-cons, true, Some, drop, get_or, nat_eq, sym, ◌≡◌, ◌<◌, ℕ, List, ◌∷◌, length, suc, refl, ap, ◌∙◌}
use Rattle.std.specs.Cmp.Lexicographic.{pointwise}
use Rattle.ed_session.specs.declared.found_files.Found.{Found}
use Rattle.ed_session.specs.FoundFiles.{found_at}

-- what was found at the path that a search has come to
pub found_here : (path : List ℕ) (all : List Found) (i : ℕ) (found : Found) → i < length all → found ≡ get_or all i found → pointwise nat_eq found.path path ≡ true →
    found_at path (drop i all) ≡ Some found.file
found_here path all i found within is equal =
    let after : drop i all ≡ found ∷ drop (suc i) all = drop-cons all i found within ∙ ap (λ f. f ∷ drop (suc i) all) (sym is) in
    rw (after, equal, found_at) refl
