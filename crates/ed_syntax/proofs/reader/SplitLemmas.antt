-- Where a line doesn't end in an odd number of backslashes, no replacement is split there.
use Rattle.std.proofs.Common.{◌≡◌, ◌≢◌, ℕ, nat_eq, Bool, false, not, ◌&&◌, List, [], ◌∷◌, ◌++◌, Option, refl, sym, ap, ◌∙◌}
use Rattle.std.specs.List.{fold, list_any}
use Rattle.std.proofs.lemmas.Bool.{ne_eqb, false≢true}
use Rattle.std.proofs.lemmas.List.Sums.{fold-append}
use Rattle.std.proofs.Math.Bool.{and-false}
use Rattle.ed_syntax.specs.declared.replacement.Part.{Part}
use Rattle.ed_syntax.specs.spelling.Characters.{backslash, goes_on}
use Rattle.ed_syntax.specs.spelling.Letters.{letter_s}
use Rattle.ed_syntax.specs.Commands as ed
use Rattle.ed_syntax.specs.Commands.{Verb}
use Rattle.ed_syntax.specs.meaning.Verbs.{is_split, has_split}
use Rattle.ed_syntax.specs.spelling.Parameters.{SpellsEscape, SpellsParts, SpellsReplacement}
use Rattle.ed_syntax.proofs.reader.EndLemmas.{End, end-of, end-after, pattern-end}
use Rattle.ed_syntax.proofs.reader.LetterLemmas.{letter-simple}
use Rattle.ed_syntax.proofs.reader.SubstitutionLemmas.{SpellsSubstitution, no_backslash}
use Rattle.ed_syntax.proofs.reader.HeadLemmas.{SpellsHead}

-- whether an odd number of backslashes stands there after these bytes too
abbrev odd_after : Bool → List ℕ → Bool
odd_after = fold (λ odd b. nat_eq b backslash && not odd)

-- another byte begins anew
begins-anew : (odd : Bool) (b : ℕ) (rest : List ℕ) → b ≢ backslash → odd_after odd (b ∷ rest) ≡ goes_on rest
begins-anew odd b rest other = ap (λ t. odd_after (t && not odd) rest) (ne_eqb b backslash other)

pub goes_on-after : (front : List ℕ) (b : ℕ) (rest : List ℕ) → b ≢ backslash → goes_on (front ++ b ∷ rest) ≡ goes_on rest
goes_on-after front b rest other = fold-append (λ odd b. nat_eq b backslash && not odd) false front (b ∷ rest) ∙ begins-anew (goes_on front) b rest other

-- what a backslash and a byte are, whatever the byte
escaped : (b : ℕ) (rest : List ℕ) → goes_on (backslash ∷ b ∷ rest) ≡ goes_on rest
escaped b rest = ap (λ t. odd_after t rest) (and-false (nat_eq b backslash))

escape-whole : {delimiter b : ℕ} {p : Part} → SpellsEscape delimiter b p → is_split p ≡ false
escape-whole SpellsEscape.delimiter_itself = refl
escape-whole (SpellsEscape.group digit other small) = refl
escape-whole (SpellsEscape.byte b other no_digit no_letter) = refl

first-whole : (p : Part) (ps : List Part) → is_split p ≡ false → list_any is_split ps ≡ false → list_any is_split (p ∷ ps) ≡ false
first-whole p ps one others = rw (one) others

parts-whole : (delimiter : ℕ) {own more text : List ℕ} {ps : List Part} → SpellsParts delimiter own more text ps → goes_on own ≡ false → list_any is_split ps ≡ false
parts-whole delimiter (SpellsParts.closed more) even = refl
parts-whole delimiter SpellsParts.left_open even = refl
parts-whole delimiter (SpellsParts.literal b own more text ps no_end no_escape no_match is) even =
    parts-whole delimiter is (sym (begins-anew false b own no_escape) ∙ even)
parts-whole delimiter (SpellsParts.match own more text ps no_end is) even = parts-whole delimiter is even
parts-whole delimiter (SpellsParts.escape b own more text p ps escape is) even =
    first-whole p ps (escape-whole escape) (parts-whole delimiter is (sym (escaped b own) ∙ even))
parts-whole delimiter (SpellsParts.split own more text ps is_line is) even = absurd (false≢true (sym even))

replacement-whole : (delimiter : ℕ) {own more text : List ℕ} {replacement : Option (List Part)} (pattern : Option (List ℕ)) → SpellsReplacement delimiter own more text replacement → goes_on own ≡ false →
    (which : _) (form : Option ed.Form) → has_split (ed.Substitute pattern replacement which form) ≡ false
replacement-whole delimiter pattern (SpellsReplacement.remembered more other ends) even which form = refl
replacement-whole delimiter pattern (SpellsReplacement.given own more text parts other is) even which form = parts-whole delimiter is even

-- a line before what stands after its delimiter
line-even : (line : List ℕ) (delimiter : ℕ) (rest : List ℕ) → delimiter ≢ backslash → End line (delimiter ∷ rest) → goes_on line ≡ false → goes_on rest ≡ false
line-even line delimiter rest other end even = sym (ap goes_on end.1 ∙ goes_on-after end.0 delimiter rest other) ∙ even

substitution-whole : (line : List ℕ) {own more before : List ℕ} {verb : Verb} → End line own → SpellsSubstitution own more before verb → goes_on line ≡ false → has_split verb ≡ false
substitution-whole line end (SpellsSubstitution.parameters delimiter own after_pattern after_replacement more text pattern replacement which form good quoted replaced end_is) even =
    let after = end-of end (end-after delimiter (pattern-end delimiter quoted)) in
    replacement-whole delimiter pattern replaced (line-even line delimiter after_pattern (no_backslash delimiter good) after even) which form

-- a command on such a line
pub head-whole : (line : List ℕ) {own more before : List ℕ} {verb : Verb} → End line own → SpellsHead own more before verb → goes_on line ≡ false → has_split verb ≡ false
head-whole line end (SpellsHead.plain own more verb is) even = (letter-simple is).whole
head-whole line end (SpellsHead.substitution own more before verb is) even = substitution-whole line (end-of end (letter_s ∷ [], refl)) is even
