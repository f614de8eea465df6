-- Sets of choices: those within another set, and how many of a list a set lacks.
use Rattle.std.proofs.Common.{◌≡◌, ℕ, Bool, true, List, [], ◌∷◌, ◌++◌, map, None, Some, refl, sym, ◌∙◌}
use Rattle.std.specs.Prelude.{unwrap_or}
use Rattle.std.specs.List.{list_all}
use Rattle.std.specs.Cmp.Lexicographic.{nat_list_cmp_total}
use Rattle.std.proofs.lemmas.Bool.{and_from, and_parts}
use Rattle.std.proofs.lemmas.List.Folds.{list_all-append}
use Rattle.std.proofs.lemmas.Map.Lookups.{exact_bytes}
use Rattle.ed_base.proofs.SortedLemmas.{members-front, members-back, with_members-passes}
use Rattle.ed_rules.specs.Choices.{Choice, order_of, has_choice, union, are_choices}
use Rattle.ed_rules.specs.Texts.{are_members}
use Rattle.ed_rules.specs.Files.{filled}
use Rattle.ed_rules.proofs.formed.RisingChoices.{choices-ordered}
use Rattle.ed_rules.proofs.Choosing.{exact-choices}
use Rattle.ed_rules.proofs.Texting.{members-same}

-- WITHIN A SET

pub append-all : (p : Choice → Bool) (cs ds : List Choice) → list_all p (cs ++ ds) ≡ true → (list_all p cs ≡ true) × (list_all p ds ≡ true)
append-all p cs ds e = and_parts (list_all p cs) (list_all p ds) (sym (list_all-append p cs ds) ∙ e)

pub are-union : (many one other : List Choice) → are_choices one many ≡ true → are_choices other many ≡ true → are_choices (union one other) many ≡ true
are-union many one other e f = with_members-passes order_of (has_choice many) one other e f

are-named : (many : List Choice) (path : List ℕ) (set : List Choice) → has_choice many (Some path) ≡ true → are_choices set many ≡ true →
    are_choices (map (λ (c : Choice). Some (unwrap_or c path)) set) many ≡ true
are-named many path [] h e = refl
are-named many path (None ∷ set) h e =
    let k = and_parts (has_choice many None) (are_choices set many) e in
    and_from (has_choice many (Some path)) (are_choices (map (λ (c : Choice). Some (unwrap_or c path)) set) many) h (are-named many path set h k.1)
are-named many path (Some text ∷ set) h e =
    let k = and_parts (has_choice many (Some text)) (are_choices set many) e in
    and_from (has_choice many (Some text)) (are_choices (map (λ (c : Choice). Some (unwrap_or c path)) set) many) k.0 (are-named many path set h k.1)

pub are-filled : (many : List Choice) (path : List ℕ) (set : List Choice) → has_choice many (Some path) ≡ true → are_choices set many ≡ true → are_choices (filled path set) many ≡ true
unfolding filled
are-filled many path set h e = are-union many (map (λ (c : Choice). Some (unwrap_or c path)) set) [] (are-named many path set h e) refl

pub are-front : (few cs ds : List Choice) → are_choices few cs ≡ true → are_choices few (cs ++ ds) ≡ true
are-front = members-front choices-ordered exact-choices

pub are-back : (few cs ds : List Choice) → are_choices few ds ≡ true → are_choices few (cs ++ ds) ≡ true
are-back = members-back choices-ordered exact-choices

-- SETS OF TEXTS

-- both are among all of them
pub members-append : (one other : List (List ℕ)) → (are_members one (one ++ other) ≡ true) × (are_members other (one ++ other) ≡ true)
members-append one other = (
  members-front nat_list_cmp_total exact_bytes one one other (members-same one),
  members-back nat_list_cmp_total exact_bytes other one other (members-same other),
)
