-- What the readers of numbers and patterns give, by how these are spelled.
use Rattle.std.proofs.Common.{◌≡◌, ◌≢◌, ℕ, ◌<◌, ◌≤◌, Bool, true, false, ◌&&◌, nat_le, List, take, drop, Option, Some, None, refl, sym, ap, ◌∙◌, ⊎_elim, subst, arith}
use Rattle.std.specs.List.{prefix_len}
use Rattle.std.proofs.lemmas.Bool.{cases_Bool, leb-true, le-leb, and_parts, and_from}
use Rattle.ed_syntax.specs.spelling.Characters.{backslash, is_digit, value_of}
use Rattle.ed_syntax.specs.spelling.Addressing.{SpellsNumber}
use Rattle.ed_syntax.specs.spelling.Quoting.{SpellsPattern}
use Rattle.ed_syntax.specs.spelling.Absence.{NoNumber, NoPattern}
use Rattle.ed_syntax.specs.reading.Tokens.{number, pattern_at}
use Rattle.ed_syntax.proofs.meaning.StepLemmas.{none_some}
use Rattle.ed_syntax.proofs.reader.NumberLemmas.{is_few, number-none, number-spelled, number-complete}
use Rattle.ed_syntax.proofs.reader.QuotingLemmas.{pattern_at-complete}

-- the digits in front spell a number, if there are few enough
pub number-here : (bytes front back : List ℕ) (len n : ℕ) → len ≡ prefix_len is_digit bytes → 1 ≤ len → len ≤ 9 → front ≡ take len bytes → back ≡ drop len bytes →
    n ≡ value_of front → SpellsNumber bytes back n
number-here bytes front back len n counted some few is left value =
    let enough : is_few len ≡ true = and_from (nat_le 1 len) (nat_le len 9) (le-leb 1 len some) (le-leb len 9 few) in
    let spelled = number-spelled bytes len (sym counted) enough in
    let same : n ≡ value_of (take len bytes) = value ∙ ap value_of is in
    subst (λ back. SpellsNumber bytes back n) (sym left) (subst (SpellsNumber bytes (drop len bytes)) (sym same) spelled)

-- and else there is none
pub no_number : (bytes : List ℕ) (len : ℕ) → len ≡ prefix_len is_digit bytes → (1 ≤ len → len ≤ 9 → ⊥) → NoNumber bytes
no_number bytes len counted wrong =
    let few : is_few len ≡ false =
    ⊎_elim (λ yes. let parts = and_parts (nat_le 1 len) (nat_le len 9) yes in absurd (wrong (leb-true 1 len parts.0) (leb-true len 9 parts.1))) (λ no. no) (cases_Bool (is_few len)) in
    λ rest n spelled. none_some (sym (number-none bytes (ap is_few (sym counted) ∙ few)) ∙ number-complete spelled)

-- where no pattern is read, none is spelled
pub no_pattern : (delimiter : ℕ) (text : List ℕ) → pattern_at delimiter text ≡ None → delimiter ≢ backslash → NoPattern delimiter text
no_pattern delimiter text unread plain = λ rest found spelled. none_some (sym unread ∙ pattern_at-complete delimiter spelled plain)
