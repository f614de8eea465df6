-- The patterns of searches, put in one address and one command after another.
use Rattle.std.proofs.Common.{◌≡◌, ◌<◌, ◌+◌, ℕ, List, [], ◌∷◌, ◌++◌, Option, Some, None, map, drop, get_or, length, refl, ◌∙◌, sym, ap}
use Rattle.std.specs.List.{flat_map}
use Rattle.std.proofs.lemmas.List.{drop_more}
use Rattle.std.proofs.lemmas.List.Concat.{flat_map-cons}
use Rattle.ed_syntax.specs.Commands as ed
use Rattle.ed_syntax.specs.Commands.{Address, Addresses, Without, One, Comma, Semicolon}
use Rattle.ed_rules.specs.Texts.{with_texts}
use Rattle.ed_rules.specs.Matched.{sought_at, sought_by, sought_at_target}
use Rattle.hints.specs.Sought.{first_of, second_of}
use Rattle.hints.proofs.Keeping.{texts-twice}

-- those of the addresses of a command
pub given-pair : (a : Addresses) (set : List (List ℕ)) →
    with_texts (sought_by a) set ≡ with_texts (sought_at_target (second_of a)) (with_texts (sought_at_target (first_of a)) set)
given-pair Without set = refl
given-pair (One a) set = refl
given-pair (Comma a b) set = sym (texts-twice (sought_at a.base) (sought_at b.base) set)
given-pair (Semicolon a None) set = refl
given-pair (Semicolon a (Some b)) set = sym (texts-twice (sought_at a.base) (sought_at b.base) set)

-- those of one more command
pub command-next : {D E : Type 0} (f : E → List (List ℕ)) (value : D → E) (xs : List D) (i : ℕ) (d : D) (all set new : List (List ℕ)) → i < length xs → d ≡ get_or xs i d →
    all ≡ with_texts (flat_map f (map value (drop i xs))) set → new ≡ with_texts (f (value d)) set → all ≡ with_texts (flat_map f (map value (drop (i + 1) xs))) new
command-next {D = D} f value xs i d all set new h is old now =
    old
    ∙ ap (λ (l : List D). with_texts (flat_map f (map value l)) set) (drop_more xs i d h ∙ ap (λ (x : D). x ∷ drop (i + 1) xs) (sym is))
    ∙ ap (λ (l : List (List ℕ)). with_texts l set) (flat_map-cons f (value d) (map value (drop (i + 1) xs)))
    ∙ sym (texts-twice (f (value d)) (flat_map f (map value (drop (i + 1) xs))) set)
    ∙ ap (λ (t : List (List ℕ)). with_texts (flat_map f (map value (drop (i + 1) xs))) t) (sym now)

-- those of a command, by its addresses and its target
pub given-command : (a : Addresses) (target first second third : Option Address) (old one two new : List (List ℕ)) → first ≡ first_of a → second ≡ second_of a →
    third ≡ target → one ≡ with_texts (sought_at_target first) old → two ≡ with_texts (sought_at_target second) one →
    new ≡ with_texts (sought_at_target third) two → new ≡ with_texts (sought_by a ++ sought_at_target target) old
given-command a target first second third old one two new is-first is-second is-third puts-first puts-second puts-third =
    puts-third
    ∙ ap (λ (o : Option Address). with_texts (sought_at_target o) two) is-third
    ∙ ap (λ (l : List (List ℕ)). with_texts (sought_at_target target) l) (
    puts-second
    ∙ ap (λ (o : Option Address). with_texts (sought_at_target o) one) is-second
    ∙ ap (λ (l : List (List ℕ)). with_texts (sought_at_target (second_of a)) l)
    (puts-first ∙ ap (λ (o : Option Address). with_texts (sought_at_target o) old) is-first)
    ∙ sym (given-pair a old)
    )
    ∙ texts-twice (sought_by a) (sought_at_target target) old

-- a command and then its list
pub given-step : (f : ed.Command → List (List ℕ)) (one old new : List (List ℕ)) (c : ed.Command) (list given : List ed.Command) → one ≡ with_texts (f c) old →
    given ≡ list → new ≡ with_texts (flat_map f given) one → new ≡ with_texts (f c ++ flat_map f list) old
given-step f one old new c list given puts is then =
    then
    ∙ ap (λ (l : List ed.Command). with_texts (flat_map f l) one) is
    ∙ ap (λ (t : List (List ℕ)). with_texts (flat_map f list) t) puts
    ∙ texts-twice (f c) (flat_map f list) old
