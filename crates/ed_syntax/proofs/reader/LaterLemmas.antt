-- No more lines stand after what was read than before it.
use Rattle.std.proofs.Common.{◌≡◌, ℕ, zero, suc, ◌≤◌, Bool, nat_eq, List, [], ◌∷◌, length, Option, Some, None, refl, subst, arith}
use Rattle.ed_syntax.specs.declared.replacement.Part.TheVariants as part
use Rattle.ed_syntax.specs.spelling.Characters.{backslash, is_delimiter}
use Rattle.ed_syntax.specs.spelling.Letters.{letter_s}
use Rattle.ed_syntax.specs.Commands as ed
use Rattle.ed_syntax.specs.Commands.{Addresses, Verb}
use Rattle.ed_syntax.specs.reading.Tokens.{◌>>=◌, pattern_at}
use Rattle.ed_syntax.specs.reading.ReadParameters.{Place, ParsedAt, place, unescaped_part, escaped_at, part_at, parts, all_parts, is_percent, replacement, end_at, substitution_with, substitution}
use Rattle.ed_syntax.specs.reading.ReadVerbs.{verb_at}
use Rattle.ed_syntax.specs.reading.ReadCommands.{Headed, verb_from, heading_with, headed, heading_after_addresses}
use Rattle.ed_syntax.proofs.meaning.StepLemmas.{Some-same, none_some, bind-some, either}

-- all that may be read leaves so few lines
abbrev Leaves : {A : Type 0} → List (List ℕ) → ParsedAt A → Type 0
Leaves {A} lines read = (r : A × Place) → read ≡ Some r → length r.1.later ≤ length lines

leaves : {A : Type 0} (lines : List (List ℕ)) (x : A) (p : Place) → length p.later ≤ length lines → Leaves lines (Some (x, p))
leaves {A} lines x p few r is = subst (λ (r : A × Place). length r.1.later ≤ length lines) (Some-same (x, p) r is) few

leaves-none : {A : Type 0} (lines : List (List ℕ)) → Leaves {A = A} lines None
leaves-none lines r is = absurd (none_some is)

-- one step after another
leaves-bind : {A B : Type 0} (lines : List (List ℕ)) (read : ParsedAt A) (go : A × Place → ParsedAt B) → Leaves lines read → ((x : A × Place) → Leaves x.1.later (go x)) → Leaves lines (read >>= go)
leaves-bind lines None go one other r is = absurd (none_some is)
leaves-bind lines (Some x) go one other r is = omega (arith, one x refl, other x r is)

leaves-any : {A B : Type 0} (lines : List (List ℕ)) (o : Option A) (go : A → ParsedAt B) → ((x : A) → Leaves lines (go x)) → Leaves lines (o >>= go)
leaves-any lines None go other r is = absurd (none_some is)
leaves-any lines (Some x) go other r is = other x r is

escaped_at-later : (delimiter : ℕ) (bs : List ℕ) (lines : List (List ℕ)) → Leaves lines (escaped_at delimiter bs lines)
escaped_at-later delimiter [] [] = leaves-none []
escaped_at-later delimiter [] (line ∷ lines) = leaves (line ∷ lines) part.Split (place line lines) (omega arith)
escaped_at-later delimiter (b ∷ bs) lines = leaves-any lines (unescaped_part delimiter b) _ (λ p. leaves lines p (place bs lines) (omega arith))

part_at-later : (delimiter b : ℕ) (bs : List ℕ) (lines : List (List ℕ)) → Leaves lines (part_at delimiter b bs lines)
part_at-later delimiter b bs lines =
    either (Leaves lines) (nat_eq b backslash) _ _ (λ yes. escaped_at-later delimiter bs lines) (λ no. leaves lines _ (place bs lines) (omega arith))

parts-later : (most delimiter : ℕ) (own : List ℕ) (lines : List (List ℕ)) → Leaves lines (parts most delimiter own lines)
parts-later most delimiter [] lines = leaves lines [] (place [] lines) (omega arith)
parts-later zero delimiter (b ∷ bs) lines = leaves-none lines
parts-later (suc most) delimiter (b ∷ bs) lines =
    either (Leaves lines) (nat_eq b delimiter) _ _ (λ end. leaves lines [] (place (b ∷ bs) lines) (omega arith))
    (λ other. leaves-bind lines (part_at delimiter b bs lines) _ (part_at-later delimiter b bs lines) (λ p.
    leaves-bind p.1.later (parts most delimiter p.1.line p.1.later) _ (parts-later most delimiter p.1.line p.1.later) (λ r. leaves r.1.later (p.0 ∷ r.0) r.1 (omega arith))))

replacement-later : (delimiter : ℕ) (own : List ℕ) (lines : List (List ℕ)) → Leaves lines (replacement delimiter own lines)
replacement-later delimiter own lines =
    either (Leaves lines) (is_percent delimiter own) _ _ (λ alone. leaves lines None _ (omega arith))
    (λ given. leaves-bind lines (all_parts delimiter own lines) _ (parts-later _ delimiter own lines) (λ r. leaves r.1.later (Some r.0) r.1 (omega arith)))

substitution_with-later : (delimiter : ℕ) (pattern : Option (List ℕ)) (bs : List ℕ) (lines : List (List ℕ)) → Leaves lines (substitution_with delimiter pattern bs lines)
substitution_with-later delimiter pattern [] lines = leaves-none lines
substitution_with-later delimiter pattern (b ∷ bs) lines =
    leaves-bind lines (replacement delimiter bs lines) _ (replacement-later delimiter bs lines) (λ r.
    leaves-any r.1.later (end_at r.1.line) _ (λ e. leaves r.1.later _ (place e.1 r.1.later) (omega arith)))

substitution-later : (own : List ℕ) (lines : List (List ℕ)) → Leaves lines (substitution own lines)
substitution-later [] lines = leaves-none lines
substitution-later (b ∷ bs) lines =
    either (Leaves lines) (is_delimiter b) _ _
    (λ good. leaves-any lines (pattern_at b bs) _ (λ q. substitution_with-later b q.0 q.1 lines))
    (λ bad. leaves-none lines)

verb_from-later : (own : List ℕ) (lines : List (List ℕ)) → Leaves lines (verb_from own lines)
verb_from-later [] lines = leaves lines ed.Null (place [] lines) (omega arith)
verb_from-later (b ∷ bs) lines =
    either (Leaves lines) (nat_eq b letter_s) _ _ (λ yes. substitution-later bs lines)
    (λ no. leaves-any lines (verb_at (b ∷ bs)) _ (λ r. leaves lines r.0 (place r.1 lines) (omega arith)))

-- the same of a command's own line, after its addresses
pub heading-later : (listed : Bool) (given : Addresses) (own : List ℕ) (lines : List (List ℕ)) (h : Headed) → heading_after_addresses listed given own lines ≡ Some h → length h.1 ≤ length lines
heading-later listed given own lines h is =
    let verb = bind-some (verb_from own lines) (λ r. headed r.1.later (heading_with listed given r.1.line r.0)) h is in
    let found = bind-some (heading_with listed given verb.0.1.line verb.0.0) (λ h. Some (h, verb.0.1.later)) h verb.2 in
    subst (λ (h : Headed). length h.1 ≤ length lines) (Some-same (found.0, verb.0.1.later) h found.2) (verb_from-later own lines verb.0 verb.1)
