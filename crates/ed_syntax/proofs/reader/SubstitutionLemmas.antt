-- The parameters of `s`: what is read is spelled so, and what is spelled so is read.
use Rattle.std.proofs.Common.{◌≡◌, ◌≢◌, ℕ, nat_eq, nat_le, not, true, ◌&&◌, List, [], ◌∷◌, ◌++◌, drop, Option, Some, None, refl, sym, ap, ◌∙◌, subst}
use Rattle.std.specs.Prelude.{IsTrue}
use Rattle.std.proofs.lemmas.Bool.{eqb-false, and_parts, not-true}
use Rattle.ed_base.specs.Lines.{AreLines, bytes_of}
use Rattle.ed_syntax.specs.declared.replacement.Part.{Part}
use Rattle.ed_syntax.specs.declared.replacement.Which.{Which}
use Rattle.ed_syntax.specs.spelling.Characters.{backslash, is_digit, is_letter, is_delimiter}
use Rattle.ed_syntax.specs.Commands as ed
use Rattle.ed_syntax.specs.Commands.{Form, Verb}
use Rattle.ed_syntax.specs.spelling.Quoting.{SpellsPattern, SpellsClosing}
use Rattle.ed_syntax.specs.spelling.Addressing.{Blanks}
use Rattle.ed_syntax.specs.spelling.Parameters.{SpellsReplacement, SpellsEnd}
use Rattle.ed_syntax.specs.reading.Tokens.{Parsed, ◌>>=◌, pattern_at}
use Rattle.ed_syntax.specs.reading.ReadParameters.{Place, ParsedAt, place, replacement, end_at, substitution_with, substitution_by, substitution}
use Rattle.ed_syntax.proofs.meaning.StepLemmas.{Some-same, none_some, bind-some, chosen, either}
use Rattle.ed_syntax.proofs.reader.TextLemmas.{LeftLines}
use Rattle.ed_syntax.proofs.reader.LineParts.{ReadsOver}
use Rattle.ed_syntax.proofs.reader.QuotingLemmas.{pattern_at-sound, pattern_at-complete, pattern-closing}
use Rattle.ed_syntax.proofs.reader.ReplacementLemmas.{replacement-sound, replacement-complete}
use Rattle.ed_syntax.proofs.reader.FlagsLemmas.{end-sound, end-complete}

-- `s` with its parameters, what stands after it on its last line, and the further lines that were taken for it
pub data SpellsSubstitution : (own more text : List ℕ) → Verb → Type 0 where
  parameters : (delimiter : ℕ) (own after_pattern after_replacement more text : List ℕ) (pattern : Option (List ℕ)) (replacement : Option (List Part)) (which : Which) (form : Option Form) →
      IsTrue (is_delimiter delimiter) → SpellsPattern delimiter own (delimiter ∷ after_pattern) pattern → SpellsReplacement delimiter after_pattern after_replacement text replacement →
      SpellsEnd delimiter after_replacement more which form → SpellsSubstitution (delimiter ∷ own) more text (ed.Substitute pattern replacement which form)

-- a delimiter is no backslash
pub no_backslash : (delimiter : ℕ) → is_delimiter delimiter ≡ true → delimiter ≢ backslash
no_backslash b is =
    eqb-false b backslash (not-true (nat_eq b backslash) (and_parts (nat_le 33 b && nat_le b 126 && not (is_letter b) && not (is_digit b)) (not (nat_eq b backslash)) is).1)

-- what is read of these lines is spelled so
abbrev SubstitutionRead : List ℕ → List (List ℕ) → ParsedAt Verb → Type 0
SubstitutionRead own lines read = (r : Verb × Place) → read ≡ Some r → ReadsOver SpellsSubstitution own lines r

closed_read : (delimiter : ℕ) (own : List ℕ) (pattern : Option (List ℕ)) (bs : List ℕ) (lines : List (List ℕ)) → is_delimiter delimiter ≡ true → SpellsPattern delimiter own (delimiter ∷ bs) pattern → AreLines lines →
    SubstitutionRead (delimiter ∷ own) lines (substitution_with delimiter pattern (delimiter ∷ bs) lines)
closed_read delimiter own pattern bs lines good quoted are r is =
    let found = bind-some (replacement delimiter bs lines) (λ r. end_at r.1.line >>= λ e. Some (ed.Substitute pattern r.0 e.0.0 e.0.1, place e.1 r.1.later)) r is in
    let end = bind-some (end_at found.0.1.line) (λ e. Some (ed.Substitute pattern found.0.0 e.0.0 e.0.1, place e.1 found.0.1.later)) r found.2 in
    let read = replacement-sound delimiter bs lines are found.0 found.1 in
    let spells = end-sound delimiter found.0.1.line end.0 read.1 end.1 in
    subst (ReadsOver SpellsSubstitution (delimiter ∷ own) lines) (Some-same (ed.Substitute pattern found.0.0 end.0.0.0 end.0.0.1, place end.0.1 found.0.1.later) r end.2) (record {
      taken = read.0.taken;
      split = read.0.split;
      taken_are = read.0.taken_are;
      are = read.0.are;
      spells = parameters delimiter own bs found.0.1.line end.0.1 (bytes_of read.0.taken) pattern found.0.0 end.0.0.0 end.0.0.1 good quoted read.0.spells spells;
    })

-- the first byte of what closes a pattern
first_of : {delimiter b : ℕ} {text bs rest : List ℕ} → SpellsClosing delimiter text rest → text ≡ b ∷ bs → delimiter ≡ b
first_of (SpellsClosing.closed rest) same = cc
first_of SpellsClosing.left_open same = cc

with_read : (delimiter : ℕ) (own : List ℕ) (pattern : Option (List ℕ)) (after : List ℕ) (lines : List (List ℕ)) → is_delimiter delimiter ≡ true → SpellsPattern delimiter own after pattern →
    SpellsClosing delimiter after (drop 1 after) → AreLines lines → SubstitutionRead (delimiter ∷ own) lines (substitution_with delimiter pattern after lines)
with_read delimiter own pattern [] lines good quoted closing are = λ r is. absurd (none_some is)
with_read delimiter own pattern (b ∷ bs) lines good quoted closing are =
    let same : delimiter ≡ b = first_of closing refl in
    let closed : SpellsPattern delimiter own (delimiter ∷ bs) pattern = subst (λ b. SpellsPattern delimiter own (b ∷ bs) pattern) (sym same) quoted in
    closed_read delimiter own pattern bs lines good closed are

by_read : (delimiter : ℕ) (own : List ℕ) (lines : List (List ℕ)) → is_delimiter delimiter ≡ true → AreLines lines → SubstitutionRead (delimiter ∷ own) lines (substitution_by delimiter own lines)
by_read delimiter own lines good are r is =
    let q = bind-some (pattern_at delimiter own) (λ q. substitution_with delimiter q.0 q.1 lines) r is in
    let quoted = pattern_at-sound delimiter own q.0 q.1 in
    with_read delimiter own q.0.0 q.0.1 lines good quoted (pattern-closing delimiter quoted) are r q.2

pub substitution-sound : (own : List ℕ) (lines : List (List ℕ)) → AreLines lines → SubstitutionRead own lines (substitution own lines)
substitution-sound [] lines are = λ r is. absurd (none_some is)
substitution-sound (b ∷ bs) lines are =
    either (SubstitutionRead (b ∷ bs) lines) (is_delimiter b) _ _ (λ good. by_read b bs lines good are) (λ bad r is. absurd (none_some is))

-- the lines that are left after `s`
pub substitution-left : {own more text : List ℕ} {verb : Verb} → SpellsSubstitution own more text verb → (lines : List (List ℕ)) (rest : List ℕ) → AreLines lines → text ++ rest ≡ bytes_of lines → LeftLines rest
substitution-left (parameters delimiter own after_pattern after_replacement more text pattern replacement which form good quoted spells end) lines rest are same =
    (replacement-complete delimiter spells (no_backslash delimiter good) lines rest are same).0

-- `s` that is spelled so is read
pub substitution-complete : {own more text : List ℕ} {verb : Verb} → SpellsSubstitution own more text verb → Blanks more → (lines : List (List ℕ)) (rest : List ℕ) → AreLines lines → text ++ rest ≡ bytes_of lines →
    (left : LeftLines rest) × (substitution own lines ≡ Some (verb, place more left.lines))
substitution-complete (parameters delimiter own after_pattern after_replacement more text pattern given which form good quoted spells end) blanks lines rest are same =
    let plain = no_backslash delimiter good in
    let read = replacement-complete delimiter spells plain lines rest are same in (
      read.0,
      ap (λ t. chosen t (substitution_by delimiter own lines) None) good
          ∙ ap (λ (o : Parsed (Option (List ℕ))). o >>= λ q. substitution_with delimiter q.0 q.1 lines) (pattern_at-complete delimiter quoted plain)
          ∙ ap (λ (o : ParsedAt (Option (List Part))). o >>= λ r. end_at r.1.line >>= λ e. Some (ed.Substitute pattern r.0 e.0.0 e.0.1, place e.1 r.1.later)) read.1
          ∙ ap (λ (o : Parsed (Which × Option Form)). o >>= λ e. Some (ed.Substitute pattern given e.0.0 e.0.1, place e.1 read.0.lines)) (end-complete delimiter end blanks),
    )
