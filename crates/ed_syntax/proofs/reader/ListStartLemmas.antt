-- Where the list of a global command begins.
use Rattle.std.proofs.Common.{◌≡◌, ◌≤◌, ℕ, List, [], ◌∷◌, drop, length, Option, Some, None, subst}
use Rattle.ed_syntax.specs.spelling.Characters.{is_delimiter}
use Rattle.ed_syntax.specs.ListStarts.{after_pattern, list_start}
use Rattle.ed_syntax.specs.reading.Tokens.{◌>>=◌, addresses, pattern_at}
use Rattle.ed_syntax.specs.reading.ReadGlobals.{sense_at}
use Rattle.ed_syntax.proofs.meaning.StepLemmas.{Some-same, none_some, bind-some, either}
use Rattle.ed_syntax.proofs.reader.AddressesLemmas.{addresses-sound}
use Rattle.ed_syntax.proofs.reader.QuotingLemmas.{pattern_at-sound, pattern-closing}
use Rattle.ed_syntax.proofs.reader.EndLemmas.{End, end-of, end-after, addresses-end, pattern-end, closing-end}
use Rattle.ed_syntax.proofs.reader.EndPlaces.{end-short}
use Rattle.ed_syntax.proofs.reader.ScriptSteps.{sense-sound}

after_pattern-end : (bytes own : List ℕ) → after_pattern bytes ≡ Some own → End bytes own
after_pattern-end [] own = λ is. absurd (none_some is)
after_pattern-end (b ∷ bs) own =
    either (λ (o : Option (List ℕ)). o ≡ Some own → End (b ∷ bs) own) (is_delimiter b)
    (pattern_at b bs >>= λ q. Some (drop 1 q.1)) None
    (λ good is.
    let q = bind-some (pattern_at b bs) (λ q. Some (drop 1 q.1)) own is in
    let quoted = pattern_at-sound b bs q.0 q.1 in
    let rest : End bs (drop 1 q.0.1) = end-of (pattern-end b quoted) (closing-end b (pattern-closing b quoted)) in
    end-after b (subst (End bs) (Some-same (drop 1 q.0.1) own q.2) rest))
    (λ bad is. absurd (none_some is))

-- what stands after the pattern is the end of the line
pub list_start-end : (line own : List ℕ) → list_start line ≡ Some own → End line own
list_start-end line own is =
    let a = bind-some (addresses line) (λ a. sense_at a.1 >>= λ g. after_pattern g.1) own is in
    let g = bind-some (sense_at a.0.1) (λ g. after_pattern g.1) own a.2 in
    let letter = sense-sound a.0.1 g.0 g.1 in
    end-of (addresses-end (addresses-sound line a.0 a.1)) (end-of (letter.letter ∷ [], letter.split) (after_pattern-end g.0.1 own g.2))

pub list_start-short : (line own : List ℕ) → list_start line ≡ Some own → length own ≤ length line
list_start-short line own is = end-short (list_start-end line own is)
