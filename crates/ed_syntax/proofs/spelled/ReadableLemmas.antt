-- What bytes spell is readable.
use Rattle.std.proofs.Common.{◌≡◌, ◌≢◌, ℕ, nat_eq, Bool, true, false, ◌&&◌, ◌||◌, List, [], ◌∷◌, Option, is_none, refl, sym, ap, ◌∙◌}
use Rattle.std.specs.Prelude.{not}
use Rattle.std.specs.List.{list_all}
use Rattle.std.proofs.lemmas.Bool.{and_from, and_parts, ne_eqb, eq-eqb}
use Rattle.std.proofs.lemmas.List.Elements.{All-nil, All-cons, All-head, All-tail}
use Rattle.ed_base.specs.Lines.{newline, IsLine, AreLines}
use Rattle.ed_syntax.specs.declared.command.Sense.{Sense}
use Rattle.ed_syntax.specs.Commands as ed
use Rattle.ed_syntax.specs.Commands.{Addresses, Without, One, Comma, Semicolon, Form, Verb, Command, Step, Script}
use Rattle.ed_syntax.specs.meaning.Verbs.{takes, may_have}
use Rattle.ed_syntax.specs.spelling.CommandLetters.{entering}
use Rattle.ed_syntax.specs.spelling.Parameters.{SpellsText}
use Rattle.ed_syntax.specs.spelling.Spellings as spells
use Rattle.ed_syntax.specs.spelling.Spellings.{SpellsSuffix, SpellsVerb, SpellsCommand, SpellsEach, SpellsList, Spells, SpellsSteps}
use Rattle.ed_syntax.specs.spelling.Readable.{are_lines, enters_lines, is_readable, is_readable_step, SpelledIsReadable}
use Rattle.ed_syntax.proofs.reader.VerbLemmas.{file-text}

is-line : (line : List ℕ) → IsLine line → list_all (λ byte. not (nat_eq byte newline)) line ≡ true
is-line [] h = refl
is-line (byte ∷ line) h =
    let other = ne_eqb byte newline (All-head (λ byte. byte ≢ newline) byte line h) in
    rw (other, is-line line (All-tail (λ byte. byte ≢ newline) byte line h)) refl

-- lines pass the test of a text
pub are-lines : (text : List (List ℕ)) → AreLines text → are_lines text ≡ true
are-lines [] h = refl
are-lines (line ∷ text) h = rw (is-line line (All-head IsLine line text h), are-lines text (All-tail IsLine line text h)) refl

-- and what passes it are lines
other-byte : (byte : ℕ) → not (nat_eq byte newline) ≡ true → byte ≢ newline
other-byte byte h is = let k : false ≡ true = ap not (sym (eq-eqb byte newline is)) ∙ h in absurd cc

line-is : (line : List ℕ) → list_all (λ byte. not (nat_eq byte newline)) line ≡ true → IsLine line
line-is [] h = All-nil (λ byte. byte ≢ newline)
line-is (byte ∷ line) h =
    let both = and_parts (not (nat_eq byte newline)) (list_all (λ byte. not (nat_eq byte newline)) line) h in
    All-cons (λ byte. byte ≢ newline) byte line (other-byte byte both.0) (line-is line both.1)

pub lines-are : (text : List (List ℕ)) → are_lines text ≡ true → AreLines text
lines-are [] h = All-nil IsLine
lines-are (line ∷ text) h =
    let both = and_parts (list_all (λ byte. not (nat_eq byte newline)) line) (are_lines text) h in
    All-cons IsLine line text (line-is line both.0) (lines-are text both.1)

-- what a text is spelled with are lines
spelled-lines : (text rest : List ℕ) (lines : List (List ℕ)) → SpellsText text rest lines → AreLines lines
spelled-lines _ _ _ SpellsText.over = All-nil IsLine
spelled-lines _ _ _ (SpellsText.dot rest) = All-nil IsLine
spelled-lines _ _ _ (SpellsText.line line bytes rest lines whole other more) =
    All-cons IsLine line lines whole (spelled-lines bytes rest lines more)

enters-entering : (lines : List (List ℕ)) (verb : Verb) → are_lines lines ≡ true → enters_lines (entering lines verb) ≡ true
enters-entering lines (ed.Append text) h = h
enters-entering lines (ed.Change text) h = h
enters-entering lines (ed.Insert text) h = h
enters-entering lines _ h = refl

enters-none : (verb : Verb) → (takes verb).text ≡ false → enters_lines verb ≡ true
enters-none (ed.Append text) h = absurd cc
enters-none (ed.Change text) h = absurd cc
enters-none (ed.Insert text) h = absurd cc
enters-none _ h = refl

spelled-enters : (own more text rest : List ℕ) (verb : Verb) → SpellsVerb own more text rest verb → enters_lines verb ≡ true
spelled-enters _ _ _ _ _ (SpellsVerb.plain letter more rest verb is none) = enters-none verb none
spelled-enters _ _ _ _ _ (SpellsVerb.entered letter more text rest verb lines is some h) =
    enters-entering lines verb (are-lines lines (spelled-lines text rest lines h))
spelled-enters _ _ _ _ _ (SpellsVerb.on_file letter own rest path verb is h) = enters-none verb (file-text path letter verb is)
spelled-enters _ _ _ _ _ _ = refl

spelled-suffix : (verb : Verb) (more : List ℕ) (suffix : Option Form) → SpellsSuffix verb more suffix →
    (is_none suffix || (takes verb).suffix) ≡ true
spelled-suffix verb _ _ (SpellsSuffix.none blanks h) = refl
spelled-suffix verb _ _ (SpellsSuffix.given letter blanks form takes_one h k) = takes_one

command-readable : (listed : Bool) (bytes rest : List ℕ) (c : Command) → SpellsCommand listed bytes rest c → is_readable c ≡ true
command-readable listed _ _ _ (SpellsCommand.command line own more text rest given verb suffix whole before spelled may stands after) =
    let suffixed : Bool = is_none suffix || (takes verb).suffix in
    and_from (may_have given verb && suffixed) (enters_lines verb)
    (and_from (may_have given verb) suffixed may (spelled-suffix verb more suffix after))
    (spelled-enters own more text rest verb spelled)

-- each of what is spelled passes a test that each passes by itself
each-passes : {A : Type 0} (test : A → Bool) {Is : List ℕ → List ℕ → A → Type 0} →
    ((bytes more : List ℕ) (x : A) → Is bytes more x → test x ≡ true) →
    (text rest : List ℕ) (xs : List A) → SpellsEach Is text rest xs → list_all test xs ≡ true
each-passes test one _ _ _ (SpellsEach.over rest) = refl
each-passes test one _ _ _ (SpellsEach.next bytes more rest x xs h k) =
    and_from (test x) (list_all test xs) (one bytes more x h) (each-passes test one more rest xs k)

list-readable : (list : List ℕ) (cs : List Command) → SpellsList list cs → list_all is_readable cs ≡ true
list-readable _ _ (SpellsList.print_alone list h) = refl
list-readable _ _ (SpellsList.commands list cs h each) = each-passes is_readable (command-readable true) list [] cs each

global-readable : (sense : Sense) (pattern : Option (List ℕ)) (given : Addresses) →
    is_readable (spells.global_of given sense pattern) ≡ true
global-readable sense pattern Without = refl
global-readable sense pattern (One a) = refl
global-readable sense pattern (Comma a b) = refl
global-readable sense pattern (Semicolon a b) = refl

step-readable : (bytes rest : List ℕ) (x : Step) → Spells bytes rest x → is_readable_step x ≡ true
step-readable _ _ _ (Spells.single bytes rest c h) = and_from (is_readable c) true (command-readable false bytes rest c h) refl
step-readable _ _ _ (Spells.global line own more first text rest list letter delimiter given sense pattern cs h1 h2 h3 h4 h5 h6 h7 h8) =
    and_from (is_readable (spells.global_of given sense pattern)) (list_all is_readable cs) (global-readable sense pattern given)
    (list-readable list cs h8)

steps-readable : (text : List ℕ) (script : Script) → SpellsSteps text script → list_all is_readable_step script.steps ≡ true
steps-readable _ _ (SpellsSteps.whole text xs h) = each-passes is_readable_step step-readable text [] xs h
steps-readable _ _ (SpellsSteps.stuck text rest xs h other none) = each-passes is_readable_step step-readable text rest xs h

-- each command of a script that is spelled is readable
pub spelled-readable : SpelledIsReadable
spelled-readable bytes script h = steps-readable _ script h
