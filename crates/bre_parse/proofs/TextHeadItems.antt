-- What a head tells, by the items of a sequence as they lie in memory.
use Rattle.std.proofs.Common.{◌≡◌, ℕ, ◌+◌, ◌<◌, true, false, cond, List, [], ◌∷◌, ◌++◌, length, drop, take, get_or, None, refl, ap, sym, ◌∙◌, append_assoc, append-nil}
use Rattle.std.proofs.lemmas.List.{at_drop_more, take_more}
use Rattle.bre_parse.specs.declared.tree.Node.{Node}
use Rattle.bre_parse.specs.declared.text_heads.Step.TheVariants.{Open}
use Rattle.bre_parse.specs.Tree.{Tree, sequence_of}
use Rattle.bre_parse.specs.TextHeads.{lacks, step_at, cannot_start, untouched_from, single_byte}
use Rattle.bre_parse.proofs.Sequences.{tree_of-Sequence}

pub sequence_of-lacks : (items : List Node) (byte : ℕ) → lacks (sequence_of items) byte ≡ false
sequence_of-lacks [] byte = refl
sequence_of-lacks (item ∷ items) byte = refl

pub sequence_of-step_at : (items : List Node) (byte place : ℕ) → step_at (sequence_of items) byte place ≡ Open
sequence_of-step_at [] byte place = refl
sequence_of-step_at (item ∷ items) byte place = refl

pub sequence_of-single_byte : (items : List Node) → single_byte (sequence_of items) ≡ None
sequence_of-single_byte [] = refl
sequence_of-single_byte (item ∷ items) = refl

pub ruleset part_laws = (tree_of-Sequence, sequence_of-lacks, sequence_of-step_at, sequence_of-single_byte)

-- The head up to a place, and what follows of it.

pub untouched_ends : (tree : Tree) (head : List ℕ) (place : ℕ) → place < length head → cannot_start tree head place ≡ false →
    take place head ≡ take place head ++ untouched_from tree head (drop place head) place
untouched_ends tree head place lt may =
    let byte : ℕ = get_or head place 0 in
    let rest : List ℕ = drop (place + 1) head in
    sym (ap (λ (left : List ℕ). take place head ++ left)
    (at_drop_more (λ (left : List ℕ). untouched_from tree head left place) head place 0 lt
    ∙ ap (λ test. cond test (byte ∷ untouched_from tree head rest (place + 1)) []) may)
    ∙ append-nil (take place head))

pub untouched_goes_on : (tree : Tree) (head : List ℕ) (place : ℕ) → place < length head → cannot_start tree head place ≡ true →
    take (place + 1) head ++ untouched_from tree head (drop (place + 1) head) (place + 1) ≡ take place head ++ untouched_from tree head (drop place head) place
untouched_goes_on tree head place lt cannot =
    let byte : ℕ = get_or head place 0 in
    let rest : List ℕ = drop (place + 1) head in
    let later : List ℕ = untouched_from tree head rest (place + 1) in
    ap (λ (begun : List ℕ). begun ++ later) (take_more head place 0 lt)
    ∙ append_assoc (take place head) (byte ∷ []) later
    ∙ ap (λ (left : List ℕ). take place head ++ left)
    (sym (at_drop_more (λ (left : List ℕ). untouched_from tree head left place) head place 0 lt
    ∙ ap (λ test. cond test (byte ∷ later) []) cannot))
