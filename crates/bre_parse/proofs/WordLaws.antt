-- Patterns that are a word between anchors: their ways, and where two words stand that share no byte.
use Rattle.std.proofs.Common.{◌≡◌, ◌⊎◌, inl, inr, ℕ, zero, suc, ◌+◌, ◌-◌, ◌<◌, ◌≤◌, Bool, true, false, cond, List, [], ◌∷◌, length, drop, Some, refl, ap, sym, subst, ◌∙◌, arith}
use Rattle.std.specs.Prelude.{◌&&◌, ◌||◌, not, nat_eq}
use Rattle.std.proofs.lemmas.Bool.{and_parts, or_parts, or_left, or_right, eqb-true, eq-eqb, not-true, cases_lt}
use Rattle.std.proofs.lemmas.List.{drop-drop}
use Rattle.bre_parse.specs.Tree.{Tree, Empty, Then, Set, TextStart, TextEnd, BackReference, Group, Repeat}
use Rattle.bre_parse.specs.Groups.{Groups}
use Rattle.bre_parse.specs.Ways.{Way, ways, from_way, only_if, begins_with}
use Rattle.bre_parse.specs.Literal.{before}
use Rattle.bre_parse.specs.Always.{is_text_start, is_text_end, is_nothing, is_last_anchor, has_last_anchor}
use Rattle.bre_parse.specs.TextHeads.{single_byte, is_anchored}
use Rattle.bre_parse.specs.Words.{word_to_end, word_between, stands_at, agree, end_agrees, are_apart}
use Rattle.bre_parse.proofs.AlwaysLaw.{text_start_is, text_end_is}
use Rattle.bre_parse.proofs.LiteralWays.{one_way, both_tests, parts}
use Rattle.bre_parse.proofs.SingleBytes.{single, single_is, begins_after, single_then}

-- The ways of a word

-- whether a word of so many bytes at the place reaches the end, where it has to
abbrev ends_there : (at_end : Bool) → (text : List ℕ) → (end : ℕ) → Bool
ends_there at_end text end = not at_end || nat_eq end (length text)

abbrev IsWord : Tree → (at_end : Bool) → (word text : List ℕ) → (place : ℕ) → Groups → Type 0
IsWord tree at_end word text place groups =
    ways tree text place groups ≡ only_if (begins_with (drop place text) word && ends_there at_end text (place + length word)) (place + length word, groups)

nothing_is_empty : (tree : Tree) → is_nothing tree ≡ true → tree ≡ Empty
nothing_is_empty Empty e = refl
nothing_is_empty (Then first rest) e = absurd cc
nothing_is_empty (Set negated ranges) e = absurd cc
nothing_is_empty TextStart e = absurd cc
nothing_is_empty TextEnd e = absurd cc
nothing_is_empty (BackReference group) e = absurd cc
nothing_is_empty (Group group content) e = absurd cc
nothing_is_empty (Repeat least most content) e = absurd cc

same_place : (place : ℕ) → place ≡ place + length {A = ℕ} []
same_place place = omega arith

as_only : (test : Bool) (way : Way) → cond test (way ∷ []) [] ≡ only_if test way
as_only true way = refl
as_only false way = refl

nothing_word : (text : List ℕ) (place : ℕ) (groups : Groups) → IsWord Empty false [] text place groups
nothing_word text place groups = ap (λ (end : ℕ). (end, groups) ∷ []) (same_place place)

anchor_word : (text : List ℕ) (place : ℕ) (groups : Groups) → IsWord (Then TextEnd Empty) true [] text place groups
anchor_word text place groups =
    one_way (nat_eq place (length text)) (place, groups) (from_way (ways Empty text))
    ∙ as_only (nat_eq place (length text)) (place, groups)
    ∙ ap (λ (end : ℕ). only_if (nat_eq end (length text)) (end, groups)) (same_place place)

last_word : (first rest : Tree) (word text : List ℕ) (place : ℕ) (groups : Groups) → is_last_anchor first rest ≡ true → [] ≡ word → IsWord (Then first rest) true word text place groups
last_word first rest word text place groups last none =
    let both = and_parts (is_text_end first) (is_nothing rest) last in
    subst (λ (bytes : List ℕ). IsWord (Then first rest) true bytes text place groups) none
    (ap (λ (part : Tree). ways (Then part rest) text place groups) (text_end_is first both.0)
    ∙ ap (λ (after : Tree). ways (Then TextEnd after) text place groups) (nothing_is_empty rest both.1)
    ∙ anchor_word text place groups)

three_tests : (one other last : Bool) → (one && (other && last)) ≡ ((one && other) && last)
three_tests true other last = refl
three_tests false other last = refl

byte_word : (byte : ℕ) (rest : Tree) (at_end : Bool) (word text : List ℕ) (place : ℕ) (groups : Groups) → IsWord rest at_end word text (place + 1) groups →
    IsWord (Then (single byte) rest) at_end (byte ∷ word) text place groups
byte_word byte rest at_end word text place groups later =
    let here : Bool = begins_with (drop place text) (byte ∷ []) in
    let more : Bool = begins_with (drop (place + 1) text) word in
    let end : ℕ = place + 1 + length word in
    let moved : end ≡ place + length (byte ∷ word) = omega arith in
    single_then byte rest text place groups
    ∙ ap (λ (found : List Way). cond here found []) later
    ∙ both_tests here (more && ends_there at_end text end) (end, groups)
    ∙ ap (λ (test : Bool). only_if test (end, groups)) (three_tests here more (ends_there at_end text end))
    ∙ ap (λ (test : Bool). only_if (test && ends_there at_end text end) (end, groups)) (sym (begins_after byte word text place))
    ∙ ap (λ (to : ℕ). only_if (begins_with (drop place text) (byte ∷ word) && ends_there at_end text to) (to, groups)) moved

word_ways : (tree : Tree) (word text : List ℕ) (place : ℕ) (groups : Groups) → word_to_end tree ≡ Some word → IsWord tree (has_last_anchor tree) word text place groups
word_ways Empty word text place groups e =
    let none : [] ≡ word = cc in
    subst (λ (bytes : List ℕ). IsWord Empty false bytes text place groups) none (nothing_word text place groups)
word_ways (Then first rest) word text place groups e =
    by (is_last_anchor first rest) refl e (λ bytes f. word_ways rest bytes text (place + 1) groups f)
  where
    some_same : (one other : List ℕ) → Some one ≡ Some other → one ≡ other
    some_same one other e = cc

    by : (last : Bool) → is_last_anchor first rest ≡ last → cond last (Some []) (before (single_byte first) (word_to_end rest)) ≡ Some word →
        ((bytes : List ℕ) → word_to_end rest ≡ Some bytes → IsWord rest (has_last_anchor rest) bytes text (place + 1) groups) →
        IsWord (Then first rest) (last || has_last_anchor rest) word text place groups
    by true last f later = last_word first rest word text place groups last (some_same [] word f)
    by false last f later =
        let part = parts (single_byte first) (word_to_end rest) word f in
        subst (λ (bytes : List ℕ). IsWord (Then first rest) (has_last_anchor rest) bytes text place groups) part.4
        (ap (λ (item : Tree). ways (Then item rest) text place groups) (single_is first part.0 part.2)
        ∙ byte_word part.0 rest (has_last_anchor rest) part.1 text place groups (later part.1 part.3))
word_ways (Set negated ranges) word text place groups e = absurd cc
word_ways TextStart word text place groups e = absurd cc
word_ways TextEnd word text place groups e = absurd cc
word_ways (BackReference group) word text place groups e = absurd cc
word_ways (Group group content) word text place groups e = absurd cc
word_ways (Repeat least most content) word text place groups e = absurd cc

pub words_match_themselves : (tree : Tree) (word text : List ℕ) (place : ℕ) (groups : Groups) → word_between tree ≡ Some word →
    ways tree text place groups ≡ only_if (stands_at (is_anchored tree) (has_last_anchor tree) text word place) (place + length word, groups)
words_match_themselves (Then first rest) word text place groups e = by (is_text_start first) refl e
  where
    anchored : word_to_end rest ≡ Some word →
        ways (Then TextStart rest) text place groups ≡ only_if (stands_at true (has_last_anchor rest) text word place) (place + length word, groups)
    anchored f =
        one_way (nat_eq place 0) (place, groups) (from_way (ways rest text))
        ∙ ap (λ (found : List Way). cond (nat_eq place 0) found []) (word_ways rest word text place groups f)
        ∙ both_tests (nat_eq place 0) (begins_with (drop place text) word && ends_there (has_last_anchor rest) text (place + length word)) (place + length word, groups)

    by : (test : Bool) → is_text_start first ≡ test → word_to_end (cond test rest (Then first rest)) ≡ Some word →
        ways (Then first rest) text place groups ≡ only_if (stands_at test (has_last_anchor (Then first rest)) text word place) (place + length word, groups)
    by true is f =
        let start = text_start_is first is in
        ap (λ (part : Tree). ways (Then part rest) text place groups) start
        ∙ anchored f
        ∙ ap (λ (part : Tree). only_if (stands_at true (has_last_anchor (Then part rest)) text word place) (place + length word, groups)) (sym start)
    by false is f = word_ways (Then first rest) word text place groups f
words_match_themselves Empty word text place groups e = word_ways Empty word text place groups e
words_match_themselves (Set negated ranges) word text place groups e = absurd cc
words_match_themselves TextStart word text place groups e = absurd cc
words_match_themselves TextEnd word text place groups e = absurd cc
words_match_themselves (BackReference group) word text place groups e = absurd cc
words_match_themselves (Group group content) word text place groups e = absurd cc
words_match_themselves (Repeat least most content) word text place groups e = absurd cc

-- Two words

both_stand : (text one other : List ℕ) → begins_with text one ≡ true → begins_with text other ≡ true → agree one other ≡ true
both_stand text [] other h i = refl
both_stand text (byte ∷ one) [] h i = refl
both_stand [] (byte ∷ one) (next ∷ other) h i = absurd cc
both_stand (found ∷ text) (byte ∷ one) (next ∷ other) h i =
    let here = and_parts _ _ h in
    let there = and_parts _ _ i in
    let same : byte ≡ next = sym (eqb-true found byte here.0) ∙ eqb-true found next there.0 in
    ap (λ (test : Bool). test && agree one other) (eq-eqb byte next same) ∙ both_stand text one other here.1 there.1

begins_later : (text word : List ℕ) (more : ℕ) → begins_with text word ≡ true → begins_with (drop more text) (drop more word) ≡ true
begins_later text word zero h = h
begins_later text [] (suc more) h = refl
begins_later [] (byte ∷ word) (suc more) h = absurd cc
begins_later (found ∷ text) (byte ∷ word) (suc more) h = begins_later text word more (and_parts _ _ h).1

end_agrees_by : (one other : List ℕ) (at : ℕ) → at < length one → agree (drop at one) other ≡ true → end_agrees one other ≡ true
end_agrees_by [] other at lt h = absurd (omega arith)
end_agrees_by (byte ∷ one) other zero lt h = or_left _ _ h
end_agrees_by (byte ∷ one) other (suc at) lt h = or_right _ _ (end_agrees_by one other at (omega arith) h)

-- one word ends before the place of the other, where none of its ends agrees with it
one_before : (one other text : List ℕ) (i j : ℕ) → end_agrees one other ≡ false → begins_with (drop i text) one ≡ true → begins_with (drop j text) other ≡ true → i ≤ j →
    i + length one ≤ j
one_before one other text i j apart h k le = elim (cases_lt j (i + length one)) [
  | inr over ↦ over
  | inl within ↦
      let at : ℕ = j - i in
      let same : i + at ≡ j = omega arith in
      let later = ap (λ (place : ℕ). begins_with (drop place text) (drop at one)) (sym same) ∙ ap (λ (left : List ℕ). begins_with left (drop at one)) (sym (drop-drop at i text))
      ∙ begins_later (drop i text) one at h in
      let agreed = both_stand (drop j text) (drop at one) other later k in
      let ends = end_agrees_by one other at (omega arith) agreed in
      absurd (let both = sym apart ∙ ends in cc)
]

pub apart_words_do_not_meet : (one other text : List ℕ) (i j : ℕ) → are_apart one other ≡ true → begins_with (drop i text) one ≡ true → begins_with (drop j text) other ≡ true →
    (i + length one ≤ j) ⊎ (j + length other ≤ i)
apart_words_do_not_meet one other text i j apart h k =
    let neither = or_parts (end_agrees one other) (end_agrees other one) (not-true _ apart) in
    elim (cases_lt j i) [
      | inr le ↦ inl (one_before one other text i j neither.0 h k le)
      | inl lt ↦ inr (one_before other one text j i neither.1 k h (omega arith))
    ]
