-- The word of a sequence's items as they lie in memory, and two words byte by byte.
use Rattle.std.proofs.Common.{◌≡◌, ℕ, ◌+◌, ◌<◌, ◌≤◌, Bool, true, false, cond, List, [], ◌∷◌, ◌++◌, length, drop, get_or, Option, Some, None, refl, ap, sym, ◌∙◌}
use Rattle.std.specs.Prelude.{◌&&◌, ◌||◌, nat_eq, option_map}
use Rattle.std.proofs.lemmas.List.{at_drop_more, drop_all}
use Rattle.bre_parse.specs.declared.tree.Node.{Node}
use Rattle.bre_parse.specs.Tree.{Tree, tree_of, sequence_of}
use Rattle.bre_parse.specs.Literal.{before}
use Rattle.bre_parse.specs.Always.{is_text_end}
use Rattle.bre_parse.specs.TextHeads.{single_byte}
use Rattle.bre_parse.specs.Words.{word_to_end, agree, end_agrees}
use Rattle.bre_parse.proofs.Sequences.{sequence_of-drop}
use Rattle.bre_parse.proofs.AlwaysSteps.{nothing_left}

pub word_stopped : (word : List ℕ) (items : List Node) (i : ℕ) (item : Node) → i < length items → item ≡ get_or items i item →
    (is_text_end (tree_of item) && nat_eq (i + 1) (length items)) ≡ false → None ≡ single_byte (tree_of item) →
    None ≡ option_map (λ rest. word ++ rest) (word_to_end (sequence_of (drop i items)))
word_stopped word items i item lt at other none =
    let part : Tree = tree_of item in
    let after : Tree = sequence_of (drop (i + 1) items) in
    let whole : Bool → Option (List ℕ) = λ (last : Bool). cond (is_text_end part && last) (Some []) (before (single_byte part) (word_to_end after)) in
    ap (λ (one : Option ℕ). option_map (λ rest. word ++ rest) (before one (word_to_end after))) none
    ∙ ap (λ (test : Bool). option_map (λ rest. word ++ rest) (cond test (Some []) (before (single_byte part) (word_to_end after)))) (sym other)
    ∙ ap (λ (last : Bool). option_map (λ rest. word ++ rest) (whole last)) (sym (nothing_left items i lt))
    ∙ ap (λ (tree : Tree). option_map (λ rest. word ++ rest) (word_to_end tree)) (sym (sequence_of-drop items i item lt at))

agree_nothing : (one : List ℕ) → agree one [] ≡ true
agree_nothing [] = refl
agree_nothing (byte ∷ one) = refl

pub agree_over : (one other : List ℕ) (at : ℕ) → length other ≤ at → agree (drop at one) (drop at other) ≡ true
agree_over one other at le = ap (agree (drop at one)) (drop_all at other le) ∙ agree_nothing (drop at one)

pub end_agrees_later : (one other : List ℕ) (at : ℕ) → at < length one → agree (drop at one) other ≡ false →
    end_agrees (drop (at + 1) one) other ≡ end_agrees (drop at one) other
end_agrees_later one other at lt off =
    sym (at_drop_more (λ (left : List ℕ). end_agrees left other) one at 0 lt
    ∙ ap (λ (test : Bool). test || end_agrees (drop (at + 1) one) other) (sym (at_drop_more (λ (left : List ℕ). agree left other) one at 0 lt) ∙ off))
