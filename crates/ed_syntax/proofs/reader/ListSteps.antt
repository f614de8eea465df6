-- The commands of a list: what is read is spelled so, and what is spelled so is read; each may stand there.
use Rattle.std.proofs.Common.{◌≡◌, ◌≢◌, ℕ, zero, suc, ◌≤◌, true, false, not, ◌&&◌, List, [], ◌∷◌, ◌++◌, length, Option, Some, None, refl, sym, ap, ◌∙◌, ⊎_elim, subst, arith, append_assoc}
use Rattle.std.specs.Prelude.{All}
use Rattle.std.specs.List.{list_all}
use Rattle.std.proofs.lemmas.Bool.{cases_Bool, eqb-true, and_parts, and_from, false≢true}
use Rattle.std.proofs.lemmas.List.Elements.{All-head, All-tail}
use Rattle.ed_base.specs.Lines.{newline, IsLine, AreLines, lines_of, bytes_of}
use Rattle.ed_base.proofs.LineLemmas.{HoldsLines-lines, HoldsLines-lines_of}
use Rattle.ed_syntax.specs.spelling.Characters.{after_blanks}
use Rattle.ed_syntax.specs.Commands.{Verb, Command}
use Rattle.ed_syntax.specs.meaning.Verbs.{marks_by_letter, may_be_listed, has_split, is_listed}
use Rattle.ed_syntax.specs.spelling.Spellings as spelled
use Rattle.ed_syntax.specs.spelling.Spellings.{SpellsCommand, SpellsEach, SpellsList, print}
use Rattle.ed_syntax.specs.reading.Tokens.{◌>>=◌, addresses}
use Rattle.ed_syntax.specs.spelling.CommandLetters.{entering}
use Rattle.ed_syntax.specs.reading.ReadCommands.{is_dot, text, with_text, heading_after_addresses, finished, Taken, command_after_addresses, command_at}
use Rattle.ed_syntax.specs.reading.ReadGlobals.{commands, all_commands, is_newline, list_of}
use Rattle.ed_syntax.specs.meaning.Verbs.{takes}
use Rattle.ed_syntax.proofs.meaning.StepLemmas.{Some-same, bind-some, chosen, either}
use Rattle.ed_syntax.proofs.reader.EndLemmas.{End, end-all, end-after, end-of, end-keeps, addresses-end}
use Rattle.ed_syntax.proofs.reader.AddressesLemmas.{addresses-sound}
use Rattle.ed_syntax.proofs.reader.TextLemmas.{no_lines}
use Rattle.ed_syntax.proofs.reader.LetterLemmas.{is_global, text-keeps}
use Rattle.ed_syntax.proofs.reader.StandLemmas.{command_after_addresses-stands}
use Rattle.ed_syntax.proofs.reader.HeadingLemmas.{heading-sound}
use Rattle.ed_syntax.proofs.reader.SplitLemmas.{head-whole}
use Rattle.ed_syntax.proofs.reader.JoinedLemmas.{Even}
use Rattle.ed_syntax.proofs.reader.CommandLemmas.{command-sound, command-complete}
use Rattle.ed_syntax.proofs.reader.ScriptLemmas.{command_at-later}

-- the lines after a text are the last ones
text-end : (lines : List (List ℕ)) → End lines (text lines).1
text-end [] = end-all []
text-end (line ∷ lines) =
    either (λ (r : List (List ℕ) × List (List ℕ)). End (line ∷ lines) r.1) (is_dot line) ([], lines) (line ∷ (text lines).0, (text lines).1)
    (λ dot. end-after line (end-all lines)) (λ other. end-after line (text-end lines))

pub with_text-end : (verb : Verb) (later : List (List ℕ)) → End later (with_text verb later).1
with_text-end verb later =
    either (λ (r : Verb × List (List ℕ)). End later r.1) (takes verb).text (entering (text later).0 verb, (text later).1) (verb, later) (λ yes. text-end later) (λ no. end-all later)

-- a command of a list on an even line: it may be listed, and the lines after it are the last ones
record ListedRead (later : List (List ℕ)) (r : Command × List (List ℕ)) : Type 0 where
  pub listed : is_listed r.0 ≡ true
  pub after : End later r.1

listed-read : (line : List ℕ) (later : List (List ℕ)) (r : Command × List (List ℕ)) → AreLines (line ∷ later) → Even line → command_at true line later ≡ Some r → ListedRead later r
listed-read line later r are even is =
    let given = bind-some (addresses line) (λ a. command_after_addresses true a.0 a.1 later) r is in
    let h = bind-some (heading_after_addresses true given.0.0 given.0.1 later) (λ h. Some (finished true h.0 h.1)) r given.2 in
    let read = heading-sound true given.0.0 given.0.1 later h.0 (All-tail IsLine line later are) h.1 in
    let stands = command_after_addresses-stands true given.0.0 given.0.1 later r given.2 in
    let parts = and_parts (not (is_global r.0.verb)) (marks_by_letter r.0.verb) stands.sound in
    let whole : has_split r.0.verb ≡ false =
    ap (λ (r : Command × List (List ℕ)). has_split r.0.verb) (sym (Some-same (finished true h.0.0 h.0.1) r h.2))
    ∙ text-keeps has_split (λ new old. (refl, refl, refl)) h.0.0.verb h.0.1
    ∙ head-whole line (addresses-end (addresses-sound line given.0 given.1)) read.spells.head even in
    let marked = and_from r.0.listed (marks_by_letter r.0.verb) stands.marked parts.1 in
    let may = and_from (r.0.listed && marks_by_letter r.0.verb) (may_be_listed r.0.verb) marked stands.may in
    let P : Command × List (List ℕ) → Type 0 = λ r. End later r.1 in record {
      listed = and_from (r.0.listed && marks_by_letter r.0.verb && may_be_listed r.0.verb) (not (has_split r.0.verb)) may (ap not whole);
      after = subst P (Some-same (finished true h.0.0 h.0.1) r h.2) (end-of (read.taken, read.split) (with_text-end h.0.0.verb h.0.1));
    }

-- the commands of even lines may be listed
pub commands-listed : (most : ℕ) (lines : List (List ℕ)) (cs : List Command) → AreLines lines → All Even lines → commands most lines ≡ Some cs → list_all is_listed cs ≡ true
commands-listed most [] cs are even is = ap (list_all is_listed) (sym (Some-same [] cs is))
commands-listed zero (line ∷ later) cs are even is = cc
commands-listed (suc most) (line ∷ later) cs are even is =
    let first = bind-some (command_at true line later) (λ r. commands most r.1 >>= λ cs. Some (r.0 ∷ cs)) cs is in
    let others = bind-some (commands most first.0.1) (λ cs. Some (first.0.0 ∷ cs)) cs first.2 in
    let read = listed-read line later first.0 are (All-head Even line later even) first.1 in
    let sound = command-sound true line later first.0 are first.1 in
    let left = end-keeps Even read.after (All-tail Even line later even) in
    let there = commands-listed most first.0.1 others.0 sound.are left others.1 in
    ap (list_all is_listed) (sym (Some-same (first.0.0 ∷ others.0) cs others.2)) ∙ and_from (is_listed first.0.0) (list_all is_listed others.0) read.listed there

-- commands that are read are spelled so
pub commands-sound : (most : ℕ) (lines : List (List ℕ)) (cs : List Command) → AreLines lines → commands most lines ≡ Some cs → SpellsEach (SpellsCommand true) (bytes_of lines) [] cs
commands-sound most [] cs are is = subst (SpellsEach (SpellsCommand true) [] []) (Some-same [] cs is) (spelled.over [])
commands-sound zero (line ∷ later) cs are is = cc
commands-sound (suc most) (line ∷ later) cs are is =
    let first = bind-some (command_at true line later) (λ r. commands most r.1 >>= λ cs. Some (r.0 ∷ cs)) cs is in
    let others = bind-some (commands most first.0.1) (λ cs. Some (first.0.0 ∷ cs)) cs first.2 in
    let read = command-sound true line later first.0 are first.1 in
    let after = commands-sound most first.0.1 others.0 read.are others.1 in
    subst (SpellsEach (SpellsCommand true) (bytes_of (line ∷ later)) []) (Some-same (first.0.0 ∷ others.0) cs others.2)
    (subst (λ text. SpellsEach (SpellsCommand true) text [] (first.0.0 ∷ others.0)) (sym read.split)
    (spelled.next read.bytes (bytes_of first.0.1) [] first.0.0 others.0 read.spells after))

-- the commands from a first one on
abbrev from_command : ℕ → Taken Command → Option (List Command)
from_command most o = o >>= λ r. commands most r.1 >>= λ cs. Some (r.0 ∷ cs)

-- at one command the greatest number of commands doesn't matter, if it doesn't after it
from_enough : (k j : ℕ) (line : List ℕ) (later : List (List ℕ)) → ((rest : List (List ℕ)) → length rest ≤ length later → commands k rest ≡ commands j rest) →
    (o : Taken Command) → command_at true line later ≡ o → from_command k o ≡ from_command j o
from_enough k j line later same None is = refl
from_enough k j line later same (Some r) is = ap (λ (o : Option (List Command)). o >>= λ cs. Some (r.0 ∷ cs)) (same r.1 (command_at-later true line later r is))

-- from where it reaches no more commands than lines, the greatest number doesn't matter
commands-enough : (k j : ℕ) (lines : List (List ℕ)) → length lines ≤ k → length lines ≤ j → commands k lines ≡ commands j lines
commands-enough k j [] in_k in_j = refl
commands-enough zero j (line ∷ later) in_k in_j = absurd (omega (arith, in_k))
commands-enough (suc k) zero (line ∷ later) in_k in_j = absurd (omega (arith, in_j))
commands-enough (suc k) (suc j) (line ∷ later) in_k in_j =
    from_enough k j line later (λ rest shorter. commands-enough k j rest (omega (arith, in_k, shorter)) (omega (arith, in_j, shorter))) (command_at true line later) refl

-- a command, and those after it
pub commands-next : (line : List ℕ) (later rest : List (List ℕ)) (c : Command) → command_at true line later ≡ Some (c, rest) →
    commands (length (line ∷ later)) (line ∷ later) ≡ (commands (length rest) rest >>= λ cs. Some (c ∷ cs))
commands-next line later rest c is =
    ap (from_command (length later)) is
    ∙ ap (λ (o : Option (List Command)). o >>= λ cs. Some (c ∷ cs)) (commands-enough (length later) (length rest) rest (command_at-later true line later (c, rest) is) (omega arith))

-- commands before those that are read after them
abbrev pub before_commands : List Command → Option (List Command) → Option (List Command)
before_commands before o = o >>= λ cs. Some (before ++ cs)

pub before_none : (o : Option (List Command)) → before_commands [] o ≡ o
before_none None = refl
before_none (Some cs) = refl

before_twice : (before : List Command) (c : Command) (o : Option (List Command)) → before_commands (before ++ c ∷ []) o ≡ before_commands before (o >>= λ cs. Some (c ∷ cs))
before_twice before c None = refl
before_twice before c (Some cs) = ap Some (append_assoc before (c ∷ []) cs)

-- one command more
pub before_commands-next : (before : List Command) (line : List ℕ) (later lines rest : List (List ℕ)) (c : Command) → lines ≡ line ∷ later → command_at true line later ≡ Some (c, rest) →
    before_commands (before ++ c ∷ []) (commands (length rest) rest) ≡ before_commands before (commands (length lines) lines)
before_commands-next before line later lines rest c split is =
    before_twice before c (commands (length rest) rest)
    ∙ ap (before_commands before) (sym (commands-next line later rest c is) ∙ ap (λ ls. commands (length ls) ls) (sym split))

-- a command that can't be read
pub commands-stuck : (line : List ℕ) (later : List (List ℕ)) → command_at true line later ≡ None → commands (length (line ∷ later)) (line ∷ later) ≡ None
commands-stuck line later is = ap (from_command (length later)) is

-- commands that are spelled so are read
commands-complete : {bytes rest : List ℕ} {cs : List Command} → SpellsEach (SpellsCommand true) bytes rest cs → rest ≡ [] → (lines : List (List ℕ)) → AreLines lines → bytes ≡ bytes_of lines →
    commands (length lines) lines ≡ Some cs
commands-complete (spelled.over rest) over lines are same = ap (λ lines. commands (length lines) lines) (no_lines lines (sym over ∙ same))
commands-complete (spelled.next bytes more rest c cs is each) over lines are same =
    let found = command-complete true is lines are same in
    let left = found.left.lines in
    ap (λ lines. commands (length lines) lines) found.split
    ∙ commands-next found.line found.later left c found.read
    ∙ ap (λ (o : Option (List Command)). o >>= λ cs. Some (c ∷ cs)) (commands-complete each over left found.left.are found.left.split)

is_newline-sound : (bytes : List ℕ) → is_newline bytes ≡ true → bytes ≡ newline ∷ []
is_newline-sound [] is = absurd (false≢true is)
is_newline-sound (b ∷ []) is = ap (λ b. b ∷ []) (eqb-true b newline is)
is_newline-sound (b ∷ c ∷ bs) is = absurd (false≢true is)

is_newline-other : (bytes : List ℕ) → bytes ≢ newline ∷ [] → is_newline bytes ≡ false
is_newline-other bytes other = ⊎_elim (λ yes. absurd (other (is_newline-sound bytes yes))) (λ no. no) (cases_Bool (is_newline bytes))

-- the lines of bytes are lines
are_lines : (bytes : List ℕ) → AreLines (lines_of bytes)
are_lines bytes = HoldsLines-lines (HoldsLines-lines_of bytes)

-- a list that is read is spelled so, and its commands may be listed
pub record ReadsList (list : List ℕ) (cs : List Command) : Type 0 where
  pub spells : SpellsList list cs
  pub listed : list_all is_listed cs ≡ true

-- what is read of a list
abbrev ListRead : List ℕ → Option (List Command) → Type 0
ListRead list read = (cs : List Command) → read ≡ Some cs → ReadsList list cs

pub list-sound : (list : List ℕ) → bytes_of (lines_of list) ≡ list → All Even (lines_of list) → (cs : List Command) → list_of list ≡ Some cs → ReadsList list cs
list-sound list whole even =
    either (ListRead list) (is_newline (after_blanks list)) (Some (print ∷ [])) (all_commands list)
    (λ left_out cs is. subst (ReadsList list) (Some-same (print ∷ []) cs is)
    (record { spells = SpellsList.print_alone list (is_newline-sound (after_blanks list) left_out); listed = refl }))
    (λ some cs is. record {
      spells = SpellsList.commands list cs (λ same. false≢true (sym some ∙ ap is_newline same))
          (subst (λ text. SpellsEach (SpellsCommand true) text [] cs) whole (commands-sound (length (lines_of list)) (lines_of list) cs (are_lines list) is));
      listed = commands-listed (length (lines_of list)) (lines_of list) cs (are_lines list) even is;
    })

-- a list that is spelled so is read
pub list-complete : {list : List ℕ} {cs : List Command} → SpellsList list cs → bytes_of (lines_of list) ≡ list → list_of list ≡ Some cs
list-complete (SpellsList.print_alone list is) whole = ap (λ bytes. chosen (is_newline bytes) (Some (print ∷ [])) (all_commands list)) is
list-complete (SpellsList.commands list cs other each) whole =
    ap (λ t. chosen t (Some (print ∷ [])) (all_commands list)) (is_newline-other (after_blanks list) other)
    ∙ commands-complete each refl (lines_of list) (are_lines list) (sym whole)
