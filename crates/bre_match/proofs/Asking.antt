-- The groups to which a part refers are asked for.
use Rattle.std.proofs.Common.{◌≡◌, ℕ, zero, suc, ◌+◌, ◌*◌, ◌<◌, ◌≤◌, length, List, [], ◌∷◌, ◌++◌, get_or, drop, Bool, true, refl, ap, sym, ◌∙◌, subst, Vec, Global, arith}
use Rattle.std.specs.Prelude.{slice_index_or, slice_set}
use Rattle.std.proofs.lemmas.Grind.{take_at_read}
use Rattle.std.proofs.lemmas.List.{get_or_read}
use Rattle.bre_parse.specs.declared.tree.Node.{Node}
use Rattle.bre_parse.specs.declared.tree.Node.TheVariants as node
use Rattle.bre_parse.specs.Tree.{Tree, Empty, Then, Set, TextStart, TextEnd, BackReference, Group, Repeat, tree_of, sequence_of}
use Rattle.bre_parse.proofs.Sequences.{tree_of-Sequence}
use Rattle.bre_match.specs.Alike.{RefersWithin}
use Rattle.bre_match.specs.Keeping.{asked_by}

pub asked-push : (items : List Node) (item : Node) (asked : List Bool) → asked_by (sequence_of (items ++ item ∷ [])) asked ≡ asked_by (tree_of item) (asked_by (sequence_of items) asked)
asked-push [] item asked = refl
asked-push (head ∷ items) item asked = asked-push items item (asked_by (tree_of head) asked)

pub ruleset asking_laws = (tree_of-Sequence, asked-push, take_at_read, get_or_read)

set_there : (asked : List Bool) (i : ℕ) → slice_index_or (slice_set asked i true) i true ≡ true
set_there [] i = refl
set_there (b ∷ asked) zero = refl
set_there (b ∷ asked) (suc i) = set_there asked i

set_more : (asked : List Bool) (i j : ℕ) → slice_index_or asked i true ≡ true → slice_index_or (slice_set asked j true) i true ≡ true
set_more [] i j e = refl
set_more (b ∷ asked) zero zero e = refl
set_more (b ∷ asked) zero (suc j) e = e
set_more (b ∷ asked) (suc i) zero e = e
set_more (b ∷ asked) (suc i) (suc j) e = set_more asked i j e

asks_more : (t : Tree) (asked : List Bool) (i : ℕ) → slice_index_or asked i true ≡ true → slice_index_or (asked_by t asked) i true ≡ true
asks_more Empty asked i e = e
asks_more (Then a b) asked i e = asks_more b (asked_by a asked) i (asks_more a asked i e)
asks_more (Set n r) asked i e = e
asks_more TextStart asked i e = e
asks_more TextEnd asked i e = e
asks_more (BackReference j) asked i e = set_more asked i j e
asks_more (Group j c) asked i e = asks_more c asked i e
asks_more (Repeat l m c) asked i e = asks_more c asked i e

within_more : (t u : Tree) (asked : List Bool) → RefersWithin asked t → RefersWithin (asked_by u asked) t
within_more Empty u asked h = tt
within_more (Then a b) u asked h = (within_more a u asked h.0, within_more b u asked h.1)
within_more (Set n r) u asked h = tt
within_more TextStart u asked h = tt
within_more TextEnd u asked h = tt
within_more (BackReference j) u asked h = asks_more u asked j h
within_more (Group j c) u asked h = within_more c u asked h
within_more (Repeat l m c) u asked h = within_more c u asked h

asks_for : (t : Tree) (asked : List Bool) → RefersWithin (asked_by t asked) t
asks_for Empty asked = tt
asks_for (Then a b) asked = (within_more a b (asked_by a asked) (asks_for a asked), asks_for b (asked_by a asked))
asks_for (Set n r) asked = tt
asks_for TextStart asked = tt
asks_for TextEnd asked = tt
asks_for (BackReference j) asked = set_there asked j
asks_for (Group j c) asked = asks_for c asked
asks_for (Repeat l m c) asked = asks_for c asked

pub asked_within : (t : Tree) (asked none : List Bool) → asked ≡ asked_by t none → RefersWithin asked t
asked_within t asked none e = subst (λ l. RefersWithin l t) (sym e) (asks_for t none)

-- what refers to asked groups does so item by item

pub item_within : (asked : List Bool) (items : List Node) (i : ℕ) (item : Node) → item ≡ get_or items i item → RefersWithin asked (sequence_of items) → i < length items → RefersWithin asked (tree_of item)
item_within asked [] i item e h lt = absurd (omega arith)
item_within asked (x ∷ items) zero item e h lt = subst (λ n. RefersWithin asked (tree_of n)) (sym e) h.0
item_within asked (x ∷ items) (suc i) item e h lt = item_within asked items i item e h.1 (omega arith)

pub rest_within : (asked : List Bool) (items : List Node) (i : ℕ) → RefersWithin asked (sequence_of items) → RefersWithin asked (sequence_of (drop i items))
rest_within asked items zero h = h
rest_within asked [] (suc i) h = tt
rest_within asked (x ∷ items) (suc i) h = rest_within asked items i h.1

pub sequence_within : (asked : List Bool) (part : Node) (items : Vec Node Global) (slice : List Node) → slice ≡ items.items → part ≡ node.Sequence items → RefersWithin asked (tree_of part) → RefersWithin asked (sequence_of slice)
sequence_within asked part items slice e is h =
    subst (λ l. RefersWithin asked (sequence_of l)) (sym e) (subst (λ t. RefersWithin asked t) (ap tree_of is ∙ tree_of-Sequence items) h)

pub sequence_as_whole : (part : Node) (items : Vec Node Global) (slice : List Node) → slice ≡ items.items → part ≡ node.Sequence items → tree_of part ≡ sequence_of slice
sequence_as_whole part items slice e is = ap tree_of is ∙ tree_of-Sequence items ∙ sym (ap sequence_of e)

-- an item weighs no more than all
pub item_falls : (a b t : ℕ) → t ≡ 6 * b + 4 → a ≤ b → 6 * a + 3 < t
item_falls a b t e le = omega (arith, e, le)
