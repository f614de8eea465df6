-- The verb of a letter with its parameters has no list and no split, and a letter for its mark; a text changes nothing of that.
use Rattle.std.proofs.Common.{◌≡◌, ℕ, Bool, true, false, not, ◌&&◌, List, refl}
use Rattle.std.proofs.lemmas.Bool.{and_parts, lt-ltb, not-true}
use Rattle.ed_syntax.specs.Commands as ed
use Rattle.ed_syntax.specs.Commands.{Verb}
use Rattle.ed_syntax.specs.meaning.Verbs.{takes, marks_by_letter, has_split}
use Rattle.ed_syntax.specs.reading.ReadCommands.{text, with_text}
use Rattle.ed_syntax.specs.spelling.CommandLetters.{plain_verbs, file_verbs, entering}
use Rattle.ed_syntax.proofs.meaning.StepLemmas.{either}
use Rattle.ed_syntax.proofs.reader.VerbLemmas.{SpellsLetter, of-entry}

-- a command that has a list
abbrev pub is_global : Verb → Bool
is_global (ed.Global sense pattern) = true
is_global _ = false

-- it has no list, and what marks a line is one of the letters
abbrev pub stands : Verb → Bool
stands verb = not (is_global verb) && marks_by_letter verb

-- what the verb of a letter is
pub record IsSimple (verb : Verb) : Type 0 where
  pub stands : stands verb ≡ true
  pub whole : has_split verb ≡ false

-- so is each verb of a table that a test finds to be
abbrev is_simple : Verb → Bool
is_simple verb = stands verb && not (has_split verb)

simple : (verb : Verb) → is_simple verb ≡ true → IsSimple verb
simple verb h = let both = and_parts (stands verb) (not (has_split verb)) h in record { stands = both.0; whole = not-true (has_split verb) both.1 }

pub letter-simple : {own more : List ℕ} {verb : Verb} → SpellsLetter own more verb → IsSimple verb
letter-simple (SpellsLetter.plain b more verb is) = simple verb (of-entry (λ (e : ℕ × Verb). is_simple e.1) plain_verbs (b, verb) refl is)
letter-simple (SpellsLetter.mark letter more small) = record { stands = lt-ltb letter 26 small; whole = refl }
letter-simple (SpellsLetter.file b own path verb is spells) = simple verb (of-entry (λ (e : ℕ × Verb). is_simple e.1) (file_verbs path) (b, verb) refl is)
letter-simple _ = record { stands = refl; whole = refl }

-- it is the same of a verb whatever its text
abbrev IgnoresText : {A : Type 0} → (Verb → A) → Type 0
IgnoresText of = (new old : List (List ℕ)) → (of (ed.Append new) ≡ of (ed.Append old)) × (of (ed.Change new) ≡ of (ed.Change old)) × (of (ed.Insert new) ≡ of (ed.Insert old))

entering-keeps : {A : Type 0} (of : Verb → A) → IgnoresText of → (entered : List (List ℕ)) (verb : Verb) → of (entering entered verb) ≡ of verb
entering-keeps of same entered (ed.Append old) = (same entered old).0
entering-keeps of same entered (ed.Change old) = (same entered old).1
entering-keeps of same entered (ed.Insert old) = (same entered old).2
entering-keeps of same entered _ = refl

pub text-keeps : {A : Type 0} (of : Verb → A) → IgnoresText of → (verb : Verb) (later : List (List ℕ)) → of (with_text verb later).0 ≡ of verb
text-keeps of same verb later =
    either (λ (r : Verb × List (List ℕ)). of r.0 ≡ of verb) (takes verb).text (entering (text later).0 verb, (text later).1) (verb, later)
    (λ yes. entering-keeps of same (text later).0 verb) (λ no. refl)
