-- A command's letter with its parameters, on its own line and further lines: what is read is spelled so, and what is spelled so is read.
use Rattle.std.proofs.Common.{◌≡◌, ℕ, ◌+◌, nat_eq, false, List, [], ◌∷◌, ◌++◌, Option, Some, None, refl, sym, ap, ◌∙◌, ⊎_elim, subst}
use Rattle.std.proofs.lemmas.Bool.{cases_Bool, eqb-true}
use Rattle.std.proofs.lemmas.List.Elements.{All-nil}
use Rattle.ed_base.specs.Lines.{IsLine, AreLines, bytes_of}
use Rattle.ed_syntax.specs.spelling.Letters.{letter_a, letter_k, letter_m, letter_s, letter_t}
use Rattle.ed_syntax.specs.Commands as ed
use Rattle.ed_syntax.specs.Commands.{Form, Verb}
use Rattle.ed_syntax.specs.meaning.Verbs.{takes}
use Rattle.ed_syntax.specs.spelling.Spellings.{SpellsSuffix}
use Rattle.ed_syntax.specs.reading.Tokens.{Parsed, ◌>>=◌}
use Rattle.ed_syntax.specs.reading.ReadParameters as reading
use Rattle.ed_syntax.specs.reading.ReadParameters.{Place, ParsedAt, place}
use Rattle.ed_syntax.specs.reading.ReadVerbs.{path_at, verb_at}
use Rattle.ed_syntax.specs.reading.ReadCommands.{verb_from}
use Rattle.ed_syntax.proofs.meaning.StepLemmas.{Some-same, none_some, bind-some, chosen, either}
use Rattle.ed_syntax.proofs.reader.TextLemmas.{LeftLines}
use Rattle.ed_syntax.proofs.reader.LineParts.{ReadsOver}
use Rattle.ed_syntax.proofs.reader.SuffixLemmas.{suffix-blanks}
use Rattle.ed_syntax.proofs.reader.VerbLemmas.{SpellsLetter, verb_at-sound, verb_at-complete}
use Rattle.ed_syntax.proofs.reader.SubstitutionLemmas.{SpellsSubstitution, substitution-sound, substitution-complete}

-- a command's letter with its parameters, before its text is read: what stands after it, and the further lines that were taken for it
pub data SpellsHead : (own more text : List ℕ) → Verb → Type 0 where
  plain : (own more : List ℕ) (verb : Verb) → SpellsLetter own more verb → SpellsHead own more [] verb
  substitution : (own more text : List ℕ) (verb : Verb) → SpellsSubstitution own more text verb → SpellsHead (letter_s ∷ own) more text verb

-- what is read of these lines is spelled so
abbrev HeadRead : List ℕ → List (List ℕ) → ParsedAt Verb → Type 0
HeadRead own lines read = (r : Verb × Place) → read ≡ Some r → ReadsOver SpellsHead own lines r

plain_read : (own : List ℕ) (lines : List (List ℕ)) → AreLines lines → (found : Verb × List ℕ) → SpellsLetter own found.1 found.0 → HeadRead own lines (Some (found.0, place found.1 lines))
plain_read own lines are found spells r is =
    subst (ReadsOver SpellsHead own lines) (Some-same (found.0, place found.1 lines) r is)
    (record { taken = []; split = refl; taken_are = All-nil IsLine; are = are; spells = plain own found.1 found.0 spells })

substitution_read : (own : List ℕ) (lines : List (List ℕ)) → AreLines lines → HeadRead (letter_s ∷ own) lines (reading.substitution own lines)
substitution_read own lines are r is =
    let read = substitution-sound own lines are r is in
    record { taken = read.taken; split = read.split; taken_are = read.taken_are; are = read.are; spells = substitution own r.1.line (bytes_of read.taken) r.0 read.spells }

pub verb_from-sound : (own : List ℕ) (lines : List (List ℕ)) → AreLines lines → HeadRead own lines (verb_from own lines)
verb_from-sound [] lines are = plain_read [] lines are (ed.Null, []) SpellsLetter.null
verb_from-sound (b ∷ bs) lines are =
    either (HeadRead (b ∷ bs) lines) (nat_eq b letter_s) _ _
    (λ yes. subst (λ b. HeadRead (b ∷ bs) lines (reading.substitution bs lines)) (sym (eqb-true b letter_s yes)) (substitution_read bs lines are))
    (λ no r is.
    let found = bind-some (verb_at (b ∷ bs)) (λ r. Some (r.0, place r.1 lines)) r is in
    plain_read (b ∷ bs) lines are found.0 (verb_at-sound (b ∷ bs) found.0 found.1) r found.2)

-- nothing comes of what goes on with nothing
none-after : {A B : Type 0} (o : Option A) → ◌>>=◌ {B = B} o (λ x. None) ≡ None
none-after None = refl
none-after (Some x) = refl

-- the letter `s` is none of those whose parameters stand on their line
at_s : (bs : List ℕ) → verb_at (letter_s ∷ bs) ≡ None
at_s bs = none-after (path_at bs)

verb_elsewhere : (b : ℕ) (bs more : List ℕ) (verb : Verb) (lines : List (List ℕ)) → verb_at (b ∷ bs) ≡ Some (verb, more) → verb_from (b ∷ bs) lines ≡ Some (verb, place more lines)
verb_elsewhere b bs more verb lines is =
    ⊎_elim
    (λ yes. absurd (none_some (sym (at_s bs) ∙ ap (λ b. verb_at (b ∷ bs)) (sym (eqb-true b letter_s yes)) ∙ is)))
    (λ no.
    ap (λ t. chosen t (reading.substitution bs lines) (verb_at (b ∷ bs) >>= λ r. Some (r.0, place r.1 lines))) no
    ∙ ap (λ (o : Parsed Verb). o >>= λ r. Some (r.0, place r.1 lines)) is)
    (cases_Bool (nat_eq b letter_s))

plain_from : {own more : List ℕ} {verb : Verb} → SpellsLetter own more verb → (lines : List (List ℕ)) → verb_from own lines ≡ Some (verb, place more lines)
plain_from SpellsLetter.null lines = refl
plain_from (SpellsLetter.plain b more verb is) lines = verb_elsewhere b more more verb lines (verb_at-complete (SpellsLetter.plain b more verb is))
plain_from (SpellsLetter.mark l more small) lines = verb_elsewhere letter_k ((letter_a + l) ∷ more) more (ed.Mark l) lines (verb_at-complete (SpellsLetter.mark l more small))
plain_from (SpellsLetter.move own more target is) lines = verb_elsewhere letter_m own more (ed.Move target) lines (verb_at-complete (SpellsLetter.move own more target is))
plain_from (SpellsLetter.copy own more target is) lines = verb_elsewhere letter_t own more (ed.Copy target) lines (verb_at-complete (SpellsLetter.copy own more target is))
plain_from (SpellsLetter.file b own path verb is spells) lines = verb_elsewhere b own [] verb lines (verb_at-complete (SpellsLetter.file b own path verb is spells))

-- no suffix follows `s`
no_suffix : {own more text : List ℕ} {verb : Verb} → SpellsSubstitution own more text verb → (takes verb).suffix ≡ false
no_suffix (SpellsSubstitution.parameters delimiter own after_pattern after_replacement more text pattern replacement which form good quoted spells end) = refl

pub verb_from-complete : {own more text : List ℕ} {verb : Verb} {suffix : Option Form} → SpellsHead own more text verb → SpellsSuffix verb more suffix → (lines : List (List ℕ)) (rest : List ℕ) → AreLines lines →
    text ++ rest ≡ bytes_of lines → (left : LeftLines rest) × (verb_from own lines ≡ Some (verb, place more left.lines))
verb_from-complete (plain own more verb is) end lines rest are same = (record { lines = lines; split = same; are = are }, plain_from is lines)
verb_from-complete (substitution own more text verb is) end lines rest are same = substitution-complete is (suffix-blanks end (no_suffix is)) lines rest are same
