-- Items that are single bytes: where their bytes stand in a text they have one way, and else none.
use Rattle.std.proofs.Common.{◌≡◌, ℕ, zero, suc, ◌+◌, Bool, true, false, cond, List, [], ◌∷◌, drop, Some, None, refl, ap, sym, ◌∙◌, arith}
use Rattle.std.specs.Prelude.{◌&&◌, nat_eq, slice_get}
use Rattle.std.proofs.lemmas.Bool.Decides.{nat_tests}
use Rattle.std.proofs.lemmas.Bool.{eqb-true}
use Rattle.bre_parse.specs.Tree.{Tree, Empty, Then, Set, TextStart, TextEnd, BackReference, Group, Repeat, in_set}
use Rattle.bre_parse.specs.Groups.{Groups}
use Rattle.bre_parse.specs.Ways.{ways, from_way, has_byte_in, begins_with}
use Rattle.bre_parse.specs.TextHeads.{single_byte}
use Rattle.bre_parse.proofs.LiteralWays.{one_way}

-- the set of one byte alone
abbrev pub single : ℕ → Tree
single byte = Set false ((byte, byte) ∷ [])

same_set : (low high byte : ℕ) → nat_eq low high ≡ true → low ≡ byte → Set false ((low, high) ∷ []) ≡ single byte
same_set low high byte e same =
    ap (λ (other : ℕ). Set false ((low, other) ∷ [])) (sym (eqb-true low high e)) ∙ ap single same

single_set : (low high byte : ℕ) (test : Bool) → nat_eq low high ≡ test → cond test (Some low) None ≡ Some byte → Set false ((low, high) ∷ []) ≡ single byte
single_set low high byte true e is = same_set low high byte e (some_same low byte is)
  where
    some_same : (one other : ℕ) → Some one ≡ Some other → one ≡ other
    some_same one other e = cc
single_set low high byte false e is = absurd cc

pub single_is : (part : Tree) (byte : ℕ) → single_byte part ≡ Some byte → part ≡ single byte
single_is (Set false ((low, high) ∷ [])) byte e = single_set low high byte (nat_eq low high) refl e
single_is (Set false []) byte e = absurd cc
single_is (Set false (range ∷ other ∷ ranges)) byte e = absurd cc
single_is (Set true ranges) byte e = absurd cc
single_is Empty byte e = absurd cc
single_is (Then first rest) byte e = absurd cc
single_is TextStart byte e = absurd cc
single_is TextEnd byte e = absurd cc
single_is (BackReference group) byte e = absurd cc
single_is (Group group content) byte e = absurd cc
single_is (Repeat least most content) byte e = absurd cc

in_single : (byte found : ℕ) → in_set false ((byte, byte) ∷ []) found ≡ nat_eq found byte
in_single byte found = by (nat_eq found byte) refl
  where
    by : (same : Bool) → nat_eq found byte ≡ same → in_set false ((byte, byte) ∷ []) found ≡ same
    by true e = grind (arith, nat_tests)
    by false e = grind (arith, nat_tests)

-- the byte stands at the place
pub single_there : (byte : ℕ) (text : List ℕ) (place : ℕ) → has_byte_in false ((byte, byte) ∷ []) (slice_get text place) ≡ begins_with (drop place text) (byte ∷ [])
single_there byte [] zero = refl
single_there byte [] (suc place) = refl
single_there byte (found ∷ text) zero = in_single byte found ∙ with_nothing (nat_eq found byte)
  where
    with_nothing : (test : Bool) → test ≡ (test && true)
    with_nothing true = refl
    with_nothing false = refl
single_there byte (found ∷ text) (suc place) = single_there byte text place

-- a word stands there if its first byte does, and the others after it
pub begins_after : (byte : ℕ) (word text : List ℕ) (place : ℕ) →
    begins_with (drop place text) (byte ∷ word) ≡ (begins_with (drop place text) (byte ∷ []) && begins_with (drop (place + 1) text) word)
begins_after byte word [] zero = refl
begins_after byte word [] (suc place) = refl
begins_after byte word (found ∷ text) zero = split (nat_eq found byte) (begins_with text word)
  where
    split : (test more : Bool) → (test && more) ≡ ((test && true) && more)
    split true more = refl
    split false more = refl
begins_after byte word (found ∷ text) (suc place) =
    begins_after byte word text place
    ∙ ap (λ (n : ℕ). begins_with (drop place text) (byte ∷ []) && begins_with (drop n (found ∷ text)) word) (next place)
  where
    next : (n : ℕ) → suc (n + 1) ≡ suc n + 1
    next n = omega arith

-- the ways of such an item and what follows it
pub single_then : (byte : ℕ) (rest : Tree) (text : List ℕ) (place : ℕ) (groups : Groups) →
    ways (Then (single byte) rest) text place groups ≡ cond (begins_with (drop place text) (byte ∷ [])) (ways rest text (place + 1) groups) []
single_then byte rest text place groups =
    one_way (has_byte_in false ((byte, byte) ∷ []) (slice_get text place)) (place + 1, groups) (from_way (ways rest text))
    ∙ ap (λ (test : Bool). cond test (ways rest text (place + 1) groups) []) (single_there byte text place)
