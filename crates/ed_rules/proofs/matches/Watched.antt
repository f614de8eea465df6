-- The patterns of searches, put in one command after another; and what a text matches, by its tree.
use Rattle.std.proofs.Common.{◌≡◌, ◌<◌, ◌+◌, ℕ, Bool, false, List, [], ◌∷◌, map, drop, get_or, length, Result, Ok, Err, refl, ◌∙◌, sym, ap}
use Rattle.std.specs.List.{list_any, flat_map}
use Rattle.std.proofs.lemmas.List.Concat.{flat_map-cons}
use Rattle.bre_parse.specs.Tree.{Tree}
use Rattle.std.specs.Option.{is_some}
use Rattle.bre_parse.specs.Match.{match_from}
use Rattle.bre_parse.specs.Grammar.{pattern}
use Rattle.bre_parse.specs.declared.fault.BreFault.{BreFault}
use Rattle.ed_syntax.specs.meaning.Values.{matches}
use Rattle.ed_rules.specs.Texts.{with_texts}
use Rattle.ed_rules.proofs.Texting.{with_texts-append}
use Rattle.ed_rules.proofs.Choosing.{next}

-- one more of the things that give texts
pub texts-next : {D E : Type 0} (f : E → List (List ℕ)) (value : D → E) (xs : List D) (i : ℕ) (d : D) (all set new : List (List ℕ)) → i < length xs → d ≡ get_or xs i d →
    all ≡ with_texts (flat_map f (map value (drop i xs))) set → new ≡ with_texts (f (value d)) set → all ≡ with_texts (flat_map f (map value (drop (i + 1) xs))) new
texts-next {D = D} f value xs i d all set new h is old now =
    old ∙
    ap (λ (l : List D). with_texts (flat_map f (map value l)) set) (next xs i d h ∙ ap (λ (x : D). x ∷ drop (i + 1) xs) (sym is))
    ∙ ap (λ (l : List (List ℕ)). with_texts l set) (flat_map-cons f (value d) (map value (drop (i + 1) xs)))
    ∙ with_texts-append (f (value d)) (flat_map f (map value (drop (i + 1) xs))) set
    ∙ ap (λ (t : List (List ℕ)). with_texts (flat_map f (map value (drop (i + 1) xs))) t) (sym now)

-- a text that is no pattern matches nothing
pub matched-none : (text : List ℕ) (fault : BreFault) → pattern text ≡ Err fault → (line : List ℕ) → matches text line ≡ false
matched-none text fault is line =
    ap (λ (r : Result Tree BreFault). elim r as (λ _. Bool) [ Ok tree ↦ is_some (match_from tree line 0) | Err f ↦ false ]) is

-- a pattern that was read matches by its tree
pub matched-by : (text : List ℕ) (tree : Tree) → pattern text ≡ Ok tree → (line : List ℕ) → matches text line ≡ is_some (match_from tree line 0)
matched-by text tree is line =
    ap (λ (r : Result Tree BreFault). elim r as (λ _. Bool) [ Ok t ↦ is_some (match_from t line 0) | Err f ↦ false ]) is

pub none-matches : (text : List ℕ) (fault : BreFault) (lines : List (List ℕ)) → pattern text ≡ Err fault → list_any (matches text) lines ≡ false
none-matches text fault [] is = refl
none-matches text fault (line ∷ lines) is = rw (matched-none text fault is line) (none-matches text fault lines is)
