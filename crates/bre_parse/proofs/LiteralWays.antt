-- The ways of a literal pattern.
use Rattle.std.proofs.Common.{◌≡◌, ℕ, zero, suc, ◌+◌, ◌<◌, Bool, true, false, List, [], ◌∷◌, flat_map, length, drop, Option, Some, None, refl, ap, subst, sym, ◌∙◌, ◌⊎◌, inl, inr, ⊎_elim, add-one, arith, append-nil}
use Rattle.std.specs.Prelude.{◌&&◌, nat_eq, cond, slice_get}
use Rattle.std.specs.List.{All}
use Rattle.std.proofs.lemmas.Bool.Decides.{nat_tests}
use Rattle.std.proofs.lemmas.List.Elements.{All-tail}
use Rattle.std.proofs.lemmas.Bool.{eq-eqb}
use Rattle.bre_parse.specs.Tree.{Tree, Empty, Then, Set, TextStart, TextEnd, BackReference, Group, Repeat, in_set}
use Rattle.bre_parse.specs.Groups.{Groups}
use Rattle.bre_parse.specs.Ways.{Way, ways, from_way, by_end, only_if, has_byte_in, begins_with}
use Rattle.bre_parse.specs.Literal.{members_below, alone, only_byte, before, literal}

-- What the bytes of a set below a bound tell.

member_or_other : (bound : ℕ) (negated : Bool) (ranges : List (ℕ × ℕ)) (bytes : List ℕ) → members_below (suc bound) negated ranges ≡ bytes
    → ((in_set negated ranges bound ≡ true) × (bound ∷ members_below bound negated ranges ≡ bytes)) ⊎ ((in_set negated ranges bound ≡ false) × (members_below bound negated ranges ≡ bytes))
unfolding members_below
member_or_other bound negated ranges bytes e = by (in_set negated ranges bound) refl e
  where
    by : (test : Bool) → in_set negated ranges bound ≡ test → cond test (bound ∷ members_below bound negated ranges) (members_below bound negated ranges) ≡ bytes
        → ((in_set negated ranges bound ≡ true) × (bound ∷ members_below bound negated ranges ≡ bytes)) ⊎ ((in_set negated ranges bound ≡ false) × (members_below bound negated ranges ≡ bytes))
    by true f g = inl (f, g)
    by false f g = inr (f, g)

last_or_less : (other bound : ℕ) → other < suc bound → (other ≡ bound) ⊎ (other < bound)
last_or_less other bound lt = grind arith

none_below : (bound : ℕ) (negated : Bool) (ranges : List (ℕ × ℕ)) → members_below bound negated ranges ≡ [] → (other : ℕ) → other < bound → in_set negated ranges other ≡ false
none_below zero negated ranges e other lt = absurd (omega arith)
none_below (suc bound) negated ranges e other lt =
    ⊎_elim
    (λ (member : (in_set negated ranges bound ≡ true) × (bound ∷ members_below bound negated ranges ≡ [])). let wrong = member.1 in absurd cc)
    (λ (no : (in_set negated ranges bound ≡ false) × (members_below bound negated ranges ≡ [])).
    ⊎_elim
    (λ (same : other ≡ bound). ap (in_set negated ranges) same ∙ no.0)
    (λ (less : other < bound). none_below bound negated ranges no.1 other less)
    (last_or_less other bound lt))
    (member_or_other bound negated ranges [] e)

first_below : (bound : ℕ) (negated : Bool) (ranges : List (ℕ × ℕ)) (byte : ℕ) → members_below bound negated ranges ≡ byte ∷ [] → byte < bound
unfolding members_below
first_below zero negated ranges byte e = absurd cc
first_below (suc bound) negated ranges byte e =
    ⊎_elim
    (λ (member : (in_set negated ranges bound ≡ true) × (bound ∷ members_below bound negated ranges ≡ byte ∷ [])). let same = heads bound byte _ [] member.1 in omega arith)
    (λ (no : (in_set negated ranges bound ≡ false) × (members_below bound negated ranges ≡ byte ∷ [])). let less = first_below bound negated ranges byte no.1 in omega arith)
    (member_or_other bound negated ranges (byte ∷ []) e)
  where
    heads : (a b : ℕ) (as' bs : List ℕ) → a ∷ as' ≡ b ∷ bs → a ≡ b
    heads a b as' bs e = cc

only_below : (bound : ℕ) (negated : Bool) (ranges : List (ℕ × ℕ)) (byte : ℕ) → members_below bound negated ranges ≡ byte ∷ [] → (other : ℕ) → other < bound → in_set negated ranges other ≡ nat_eq other byte
only_below zero negated ranges byte e other lt = absurd (omega arith)
only_below (suc bound) negated ranges byte e other lt =
    ⊎_elim
    (λ (member : (in_set negated ranges bound ≡ true) × (bound ∷ members_below bound negated ranges ≡ byte ∷ [])).
    let is : bound ≡ byte = let f = member.1 in cc in
    let rest : members_below bound negated ranges ≡ [] = let f = member.1 in cc in
    ⊎_elim
    (λ (same : other ≡ bound). ap (in_set negated ranges) same ∙ member.0 ∙ sym (eq-eqb other byte (omega arith)))
    (λ (less : other < bound). none_below bound negated ranges rest other less ∙ sym (unequal other byte (omega arith)))
    (last_or_less other bound lt))
    (λ (no : (in_set negated ranges bound ≡ false) × (members_below bound negated ranges ≡ byte ∷ [])).
    let less_byte = first_below bound negated ranges byte no.1 in
    ⊎_elim
    (λ (same : other ≡ bound). ap (in_set negated ranges) same ∙ no.0 ∙ sym (above other byte (omega arith)))
    (λ (less : other < bound). only_below bound negated ranges byte no.1 other less)
    (last_or_less other bound lt))
    (member_or_other bound negated ranges (byte ∷ []) e)
  where
    unequal : (a b : ℕ) → a < b → nat_eq a b ≡ false
    unequal a b lt = grind (arith, nat_tests)

    above : (a b : ℕ) → b < a → nat_eq a b ≡ false
    above a b lt = grind (arith, nat_tests)

is_alone : (bytes : List ℕ) (byte : ℕ) → alone bytes ≡ Some byte → bytes ≡ byte ∷ []
is_alone [] byte e = absurd cc
is_alone (other ∷ []) byte e = let same : other ≡ byte = cc in ap (λ x. x ∷ []) same
is_alone (other ∷ another ∷ bytes) byte e = absurd cc

-- What stands at a place of a text of bytes.

pub record Stands (text : List ℕ) (place byte : ℕ) (rest : List ℕ) : Type 0 where
  pub there : drop place text ≡ byte ∷ rest
  pub got : slice_get text place ≡ Some byte
  pub after : drop (place + 1) text ≡ rest
  pub is_byte : byte < 256

abbrev Over : List ℕ → ℕ → Type 0
Over text place = (drop place text ≡ []) × (slice_get text place ≡ None)

stands : (text : List ℕ) (place : ℕ) → All (λ byte. byte < 256) text → Over text place ⊎ ((byte : ℕ) × (rest : List ℕ) × Stands text place byte rest)
stands [] zero all = inl (refl, refl)
stands [] (suc place) all = inl (refl, refl)
stands (byte ∷ text) zero all = inr (byte, text, record { there = refl; got = refl; after = refl; is_byte = all zero 0 (omega arith) })
stands (byte ∷ text) (suc place) all =
    ⊎_elim
    (λ (over : Over text place). inl over)
    (λ (found : (byte : ℕ) × (rest : List ℕ) × Stands text place byte rest).
    inr (found.0, found.1, record { there = found.2.there; got = found.2.got; after = ap (λ n. drop n (byte ∷ text)) (next place) ∙ ap (λ n. drop n text) (sym (add-one place)) ∙ found.2.after; is_byte = found.2.is_byte }))
    (stands text place (All-tail (λ byte. byte < 256) byte text all))
  where
    next : (n : ℕ) → suc n + 1 ≡ suc (suc n)
    next n = omega arith

-- The ways

abbrev Matches : Tree → List ℕ → List ℕ → Type 0
Matches tree word text = (place : ℕ) (groups : Groups) → ways tree text place groups ≡ only_if (begins_with (drop place text) word) (place + length word, groups)

pub one_way : (test : Bool) (way : Way) (f : Way → List Way) → flat_map f (by_end (only_if test way)) ≡ cond test (f way) []
one_way true way f = append-nil (f way)
one_way false way f = refl

pub end_moved : (test : Bool) (one other : ℕ) (groups : Groups) → one ≡ other → only_if test (one, groups) ≡ only_if test (other, groups)
end_moved test one other groups e = ap (λ end. only_if test (end, groups)) e

no_way : (test : Bool) (one other : List Way) → test ≡ false → cond test one other ≡ other
no_way test one other e = ap (λ t. cond t one other) e

pub both_tests : (test more : Bool) (way : Way) → cond test (only_if more way) [] ≡ only_if (test && more) way
both_tests true more way = refl
both_tests false more way = refl

set_then : (negated : Bool) (ranges : List (ℕ × ℕ)) (byte : ℕ) (rest : Tree) (word text : List ℕ) → members_below 256 negated ranges ≡ byte ∷ [] → All (λ byte. byte < 256) text → Matches rest word text → Matches (Then (Set negated ranges) rest) (byte ∷ word) text
set_then negated ranges byte rest word text e all later place groups =
    one_way (has_byte_in negated ranges (slice_get text place)) (place + 1, groups) (from_way (ways rest text))
    ∙ ⊎_elim
    (λ (over : Over text place).
    ap (λ found. cond (has_byte_in negated ranges found) (ways rest text (place + 1) groups) []) over.1
    ∙ ap (λ bytes. only_if (begins_with bytes (byte ∷ word)) (place + length (byte ∷ word), groups)) (sym over.0))
    (λ (found : (head : ℕ) × (bytes : List ℕ) × Stands text place head bytes).
    ap (λ at. cond (has_byte_in negated ranges at) (ways rest text (place + 1) groups) []) found.2.got
    ∙ ap (λ test. cond test (ways rest text (place + 1) groups) []) (only_below 256 negated ranges byte e found.0 found.2.is_byte)
    ∙ ap (λ more. cond (nat_eq found.0 byte) more []) (later (place + 1) groups ∙ ap (λ bytes. only_if (begins_with bytes word) (place + 1 + length word, groups)) found.2.after)
    ∙ both_tests (nat_eq found.0 byte) (begins_with found.1 word) (place + 1 + length word, groups)
    ∙ end_moved (nat_eq found.0 byte && begins_with found.1 word) (place + 1 + length word) (place + length (byte ∷ word)) groups (omega arith)
    ∙ ap (λ bytes. only_if (begins_with bytes (byte ∷ word)) (place + length (byte ∷ word), groups)) (sym found.2.there))
    (stands text place all)

pub parts : (byte : Option ℕ) (rest : Option (List ℕ)) (word : List ℕ) → before byte rest ≡ Some word → (first : ℕ) × (others : List ℕ) × (byte ≡ Some first) × (rest ≡ Some others) × (first ∷ others ≡ word)
parts None rest word e = absurd cc
parts (Some first) None word e = absurd cc
parts (Some first) (Some others) word e = (first, others, refl, refl, cc)

first_then : (first rest : Tree) (byte : ℕ) (word text : List ℕ) → only_byte first ≡ Some byte → All (λ byte. byte < 256) text → Matches rest word text → Matches (Then first rest) (byte ∷ word) text
first_then (Set negated ranges) rest byte word text e all later = set_then negated ranges byte rest word text (is_alone (members_below 256 negated ranges) byte e) all later
first_then Empty rest byte word text e all later = absurd cc
first_then (Then one other) rest byte word text e all later = absurd cc
first_then TextStart rest byte word text e all later = absurd cc
first_then TextEnd rest byte word text e all later = absurd cc
first_then (BackReference group) rest byte word text e all later = absurd cc
first_then (Group group content) rest byte word text e all later = absurd cc
first_then (Repeat least most content) rest byte word text e all later = absurd cc

literal_matches : (tree : Tree) (word text : List ℕ) → literal tree ≡ Some word → All (λ byte. byte < 256) text → Matches tree word text
literal_matches Empty word text e all =
    let none : [] ≡ word = cc in
    subst (λ bytes. Matches Empty bytes text) none (λ place groups. ap (λ end. (end, groups) ∷ []) (same place))
  where
    same : (place : ℕ) → place ≡ place + length {A = ℕ} []
    same place = omega arith
literal_matches (Then first rest) word text e all =
    let part = parts (only_byte first) (literal rest) word e in
    subst (λ bytes. Matches (Then first rest) bytes text) part.4 (first_then first rest part.0 part.1 text part.2 all (literal_matches rest part.1 text part.3 all))
literal_matches (Set negated ranges) word text e all = absurd cc
literal_matches TextStart word text e all = absurd cc
literal_matches TextEnd word text e all = absurd cc
literal_matches (BackReference group) word text e all = absurd cc
literal_matches (Group group content) word text e all = absurd cc
literal_matches (Repeat least most content) word text e all = absurd cc

pub literals_match_themselves : (tree : Tree) (word text : List ℕ) (place : ℕ) (groups : Groups) → literal tree ≡ Some word → All (λ byte. byte < 256) text → ways tree text place groups ≡ only_if (begins_with (drop place text) word) (place + length word, groups)
literals_match_themselves tree word text place groups e all = literal_matches tree word text e all place groups
