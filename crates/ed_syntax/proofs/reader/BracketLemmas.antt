-- What stands after a bracket expression is the end of its text.
use Rattle.std.proofs.Common.{◌≡◌, ℕ, ◌-◌, List, [], ◌∷◌, ◌++◌, length, take, Option, Some, None, Ok, Err, refl, sym, ap, ◌∙◌, subst, arith, append_assoc}
use Rattle.std.proofs.lemmas.List.{take_at, length-append}
use Rattle.bre_parse.specs.Bytes.{hyphen, period, colon, equals_sign, left_square_bracket, right_square_bracket, circumflex}
use Rattle.bre_parse.specs.Tree.{Tree}
use Rattle.bre_parse.specs.Reading.{Read}
use Rattle.bre_parse.specs.Brackets.{Ranges, bracket, after_bracket}
use Rattle.bre_parse.specs.SpelledBrackets.{SpellsEnd, SpellsElement, SpellsElements, SpellsList, SpellsBracket}
use Rattle.bre_parse.proofs.SpelledBrackets.{bracket_spelled}
use Rattle.bre_parse.proofs.ReadBrackets.{bracket_read}

-- the part of a text before its end
abbrev pub Front : (text rest : List ℕ) → Type 0
Front text rest = (front : List ℕ) × (text ≡ front ++ rest)

-- one front after another
joined : {text after rest : List ℕ} → Front text after → Front after rest → Front text rest
joined {text} {after} {rest} one other = (one.0 ++ other.0, one.1 ∙ ap (λ bs. one.0 ++ bs) other.1 ∙ sym (append_assoc one.0 other.0 rest))

end_front : {text rest : List ℕ} {byte : ℕ} → SpellsEnd text rest byte → Front text rest
end_front (SpellsEnd.itself byte rest lone) = (byte ∷ [], refl)
end_front (SpellsEnd.collating_symbol byte rest) = (left_square_bracket ∷ period ∷ byte ∷ period ∷ right_square_bracket ∷ [], refl)

element_front : {text rest : List ℕ} {ranges : Ranges} → SpellsElement text rest ranges → Front text rest
element_front (SpellsElement.single text rest byte is no_range) = end_front is
element_front (SpellsElement.range text after rest low high from open_end to order) = joined (end_front from) (joined (hyphen ∷ [], refl) (end_front to))
element_front (SpellsElement.equivalence_class byte rest no_range) =
    (left_square_bracket ∷ equals_sign ∷ byte ∷ equals_sign ∷ right_square_bracket ∷ [], refl)
element_front (SpellsElement.character_class name rest ranges known no_range) = (
  left_square_bracket ∷ colon ∷ (name ++ colon ∷ right_square_bracket ∷ []),
  ap (λ bs. left_square_bracket ∷ colon ∷ bs) (sym (append_assoc name (colon ∷ right_square_bracket ∷ []) rest)),
)

elements_front : {text rest : List ℕ} {ranges : Ranges} → SpellsElements text rest ranges → Front text rest
elements_front (SpellsElements.closing rest) = (right_square_bracket ∷ [], refl)
elements_front (SpellsElements.more text after rest ranges others not_over no_range is later) = joined (element_front is) (elements_front later)

list_front : {text rest : List ℕ} {ranges : Ranges} → SpellsList text rest ranges → Front text rest
list_front (SpellsList.first text after rest ranges others is later) = joined (element_front is) (elements_front later)

pub bracket_front : {text rest : List ℕ} {set : Tree} → SpellsBracket text rest set → Front text rest
bracket_front (SpellsBracket.matching text rest ranges other is) = list_front is
bracket_front (SpellsBracket.nonmatching text rest ranges is) = joined (circumflex ∷ [], refl) (list_front is)

-- the bytes before an end
pub take_front : (front rest : List ℕ) → take (length (front ++ rest) - length rest) (front ++ rest) ≡ front
take_front front rest = take_at front rest (length (front ++ rest) - length rest) (omega (arith, length-append front rest))

-- what stands after a bracket expression, where it was read
abbrev after : Read Tree → Option (List ℕ)
after found = elim found [ Ok read ↦ Some read.1 | Err fault ↦ None ]

after_read : (text rest : List ℕ) (found : Read Tree) → bracket text ≡ found → after found ≡ Some rest → (set : Tree) × SpellsBracket text rest set
after_read text rest (Ok read) is same =
    let last : read.1 ≡ rest = cc in
    (read.0, subst (λ rest. SpellsBracket text rest read.0) last (bracket_spelled text read.1 read.0 is))
after_read text rest (Err fault) is same = cc

-- a bracket expression stands where one is read
pub bracket-sound : (text rest : List ℕ) → after_bracket text ≡ Some rest → (set : Tree) × SpellsBracket text rest set
bracket-sound text rest is = after_read text rest (bracket text) refl is

-- a bracket expression is read where one stands
pub bracket-complete : (text rest : List ℕ) (set : Tree) → SpellsBracket text rest set → after_bracket text ≡ Some rest
bracket-complete text rest set is = ap after (bracket_read text rest set is)
