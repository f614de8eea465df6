-- The only byte of a set, and the word of a sequence.
use Rattle.std.proofs.Common.{◌≡◌, ℕ, zero, suc, ◌+◌, ◌<◌, ◌≤◌, Bool, true, false, List, [], ◌∷◌, ◌++◌, length, drop, get_or, Option, Some, None, refl, ap, sym, ◌∙◌, ◌⊎◌, ⊎_elim, add-one, arith, append-nil, append_assoc}
use Rattle.std.specs.Prelude.{cond, option_map}
use Rattle.std.specs.Option.{is_some, option_to_list}
use Rattle.bre_parse.specs.declared.tree.Node.{Node}
use Rattle.bre_parse.specs.Tree.{in_set, tree_of, sequence_of}
use Rattle.bre_parse.specs.Literal.{members_below, alone, only_byte, before, literal}
use Rattle.bre_parse.proofs.Sequences.{tree_of-Sequence, sequence_of-drop, sequence_of-all}

pub members_below-zero : (negated : Bool) (ranges : List (ℕ × ℕ)) → members_below 0 negated ranges ≡ []
unfolding members_below
members_below-zero negated ranges = refl

pub members_below-member : (bound : ℕ) (negated : Bool) (ranges : List (ℕ × ℕ)) → in_set negated ranges bound ≡ true → members_below (bound + 1) negated ranges ≡ bound ∷ members_below bound negated ranges
unfolding members_below
members_below-member bound negated ranges e =
    rw add-one (ap (λ test. cond test (bound ∷ members_below bound negated ranges) (members_below bound negated ranges)) e)

pub members_below-other : (bound : ℕ) (negated : Bool) (ranges : List (ℕ × ℕ)) → in_set negated ranges bound ≡ false → members_below (bound + 1) negated ranges ≡ members_below bound negated ranges
unfolding members_below
members_below-other bound negated ranges e =
    rw add-one (ap (λ test. cond test (bound ∷ members_below bound negated ranges) (members_below bound negated ranges)) e)

-- a higher bound leaves no byte out
more_members : (bound : ℕ) (negated : Bool) (ranges : List (ℕ × ℕ)) → length (members_below bound negated ranges) ≤ length (members_below (suc bound) negated ranges)
unfolding members_below
more_members bound negated ranges = by (in_set negated ranges bound)
  where
    by : (test : Bool) → length (members_below bound negated ranges) ≤ length (cond test (bound ∷ members_below bound negated ranges) (members_below bound negated ranges))
    by true = omega arith
    by false = omega arith

members_up_to : (bound high : ℕ) (negated : Bool) (ranges : List (ℕ × ℕ)) → bound ≤ high → length (members_below bound negated ranges) ≤ length (members_below high negated ranges)
members_up_to bound zero negated ranges le =
    let same : bound ≡ 0 = omega arith in
    let lengths = ap (λ n. length (members_below n negated ranges)) same in
    omega arith
members_up_to bound (suc high) negated ranges le =
    ⊎_elim
    (λ (same : bound ≡ suc high). let lengths = ap (λ n. length (members_below n negated ranges)) same in omega arith)
    (λ (less : bound ≤ high). let here = members_up_to bound high negated ranges less in let next = more_members high negated ranges in omega arith)
    either
  where
    either : (bound ≡ suc high) ⊎ (bound ≤ high)
    either = grind arith

several : (bytes : List ℕ) → 2 ≤ length bytes → alone bytes ≡ None
several [] le = refl
several (byte ∷ []) le = absurd (omega arith)
several (byte ∷ other ∷ bytes) le = refl

-- a second byte below the bound
pub not_alone : (bound high : ℕ) (negated : Bool) (ranges : List (ℕ × ℕ)) (byte : ℕ) → bound + 1 ≤ high → members_below bound negated ranges ≡ byte ∷ [] → in_set negated ranges bound ≡ true → alone (members_below high negated ranges) ≡ None
not_alone bound high negated ranges byte le e f =
    let two = ap length (members_below-member bound negated ranges f ∙ ap (λ bytes. bound ∷ bytes) e) in
    let more = members_up_to (bound + 1) high negated ranges le in
    several (members_below high negated ranges) (omega arith)

pub second_found : (bound high : ℕ) (negated : Bool) (ranges : List (ℕ × ℕ)) (found : Option ℕ) → bound + 1 ≤ high → members_below bound negated ranges ≡ option_to_list found → in_set negated ranges bound ≡ true → is_some found ≡ true → None ≡ alone (members_below high negated ranges)
second_found bound high negated ranges None le e f some = absurd cc
second_found bound high negated ranges (Some byte) le e f some = sym (not_alone bound high negated ranges byte le e f)

pub alone-found : (found : Option ℕ) → alone (option_to_list found) ≡ found
alone-found None = refl
alone-found (Some byte) = refl

pub ruleset member_laws = (members_below-zero, members_below-member, members_below-other, alone-found)

pub sequence_of-only_byte : (items : List Node) → only_byte (sequence_of items) ≡ None
sequence_of-only_byte [] = refl
sequence_of-only_byte (item ∷ items) = refl

pub ruleset part_laws = (tree_of-Sequence, sequence_of-only_byte)

-- What is read of a sequence, item by item.

abbrev after : List ℕ → Option (List ℕ) → Option (List ℕ)
after word found = option_map (λ rest. word ++ rest) found

after_nothing : (found : Option (List ℕ)) → after [] found ≡ found
after_nothing None = refl
after_nothing (Some word) = refl

pub literal_begun : (word : List ℕ) (found : Option (List ℕ)) → word ≡ [] → after word found ≡ found
literal_begun word found e = ap (λ bytes. after bytes found) e ∙ after_nothing found

after_one : (word : List ℕ) (byte : ℕ) (found : Option (List ℕ)) → after (word ++ byte ∷ []) found ≡ after word (before (Some byte) found)
after_one word byte None = refl
after_one word byte (Some rest) = ap Some (append_assoc word (byte ∷ []) rest)

pub literal_stepped : (word : List ℕ) (items : List Node) (i : ℕ) (item : Node) (byte : ℕ) → i < length items → item ≡ get_or items i item → Some byte ≡ only_byte (tree_of item) → after (word ++ byte ∷ []) (literal (sequence_of (drop (i + 1) items))) ≡ after word (literal (sequence_of (drop i items)))
literal_stepped word items i item byte lt at e =
    after_one word byte (literal (sequence_of (drop (i + 1) items)))
    ∙ ap (λ first. after word (before first (literal (sequence_of (drop (i + 1) items))))) e
    ∙ ap (λ tree. after word (literal tree)) (sym (sequence_of-drop items i item lt at))

pub literal_stopped : (word : List ℕ) (items : List Node) (i : ℕ) (item : Node) → i < length items → item ≡ get_or items i item → None ≡ only_byte (tree_of item) → None ≡ after word (literal (sequence_of (drop i items)))
literal_stopped word items i item lt at e =
    ap (λ first. after word (before first (literal (sequence_of (drop (i + 1) items))))) e
    ∙ ap (λ tree. after word (literal tree)) (sym (sequence_of-drop items i item lt at))

pub literal_whole : (word : List ℕ) (items : List Node) (i : ℕ) → length items ≤ i → Some word ≡ after word (literal (sequence_of (drop i items)))
literal_whole word items i le =
    ap Some (sym (append-nil word)) ∙ ap (λ tree. after word (literal tree)) (sym (sequence_of-all items i le))
