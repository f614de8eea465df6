-- The patterns of searches, put in one search after another.
use Rattle.std.proofs.Common.{◌≡◌, ◌+◌, ◌<◌, ℕ, List, ◌∷◌, length, drop, get_or, sym, ◌∙◌, ap}
use Rattle.std.specs.List.{flat_map}
use Rattle.std.proofs.lemmas.List.{drop_more}
use Rattle.std.proofs.lemmas.List.Concat.{flat_map-cons}
use Rattle.ed_rules.specs.Texts.{with_texts}
use Rattle.hints.proofs.Keeping.{texts-twice}

-- those of one more search
pub texts-next : (f : List (List ℕ) → List (List ℕ)) (xs : List (List (List ℕ))) (i : ℕ) (one : List (List ℕ)) (all set new : List (List ℕ)) →
    i < length xs → one ≡ get_or xs i one → all ≡ with_texts (flat_map f (drop i xs)) set → new ≡ with_texts (f one) set → all ≡ with_texts (flat_map f (drop (i + 1) xs)) new
texts-next f xs i one all set new h is old now =
    old ∙ ap (λ (l : List (List (List ℕ))). with_texts (flat_map f l) set) (drop_more xs i one h ∙ ap (λ x. x ∷ drop (i + 1) xs) (sym is))
    ∙ ap (λ (l : List (List ℕ)). with_texts l set) (flat_map-cons f one (drop (i + 1) xs))
    ∙ sym (texts-twice (f one) (flat_map f (drop (i + 1) xs)) set)
    ∙ ap (λ (t : List (List ℕ)). with_texts (flat_map f (drop (i + 1) xs)) t) (sym now)
