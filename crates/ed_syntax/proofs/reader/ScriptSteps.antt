-- The steps of a script, with their lists: what is read is spelled so, and what is spelled so is read.
use Rattle.std.proofs.Common.{◌≡◌, ◌≢◌, ℕ, ◌+◌, nat_eq, true, false, not, ◌&&◌, List, [], ◌∷◌, ◌++◌, length, drop, Option, Some, None, refl, sym, ap, ◌∙◌, subst, arith, append_assoc}
use Rattle.std.specs.List.{list_all}
use Rattle.std.proofs.lemmas.Bool.{eqb-true, and_parts, and_from}
use Rattle.std.proofs.lemmas.List.Elements.{All-cons, All-head, All-tail}
use Rattle.ed_base.specs.Lines.{newline, IsLine, AreLines, bytes_of}
use Rattle.ed_base.proofs.LineLemmas.{lines_of-whole}
use Rattle.ed_syntax.specs.declared.command.Sense.{Sense}
use Rattle.ed_syntax.specs.declared.command.Sense.TheVariants as sense
use Rattle.ed_syntax.specs.spelling.Characters.{is_delimiter}
use Rattle.ed_syntax.specs.spelling.Letters.{letter_g, letter_v}
use Rattle.ed_syntax.specs.Commands.{Addresses, Command, Step, alone}
use Rattle.ed_syntax.specs.meaning.Verbs.{marks_by_letter, is_listed, is_step}
use Rattle.ed_syntax.specs.spelling.Addressing.{SpellsAddresses}
use Rattle.ed_syntax.specs.spelling.Parameters.{SpellsSense}
use Rattle.ed_syntax.specs.spelling.Spellings.{Spells, global_of}
use Rattle.ed_syntax.specs.reading.Tokens.{Parsed, ◌>>=◌, pattern_at, addresses}
use Rattle.ed_syntax.specs.reading.ReadCommands.{Taken, command_after_addresses}
use Rattle.ed_syntax.specs.reading.ReadGlobals.{joined, list_of, with_list, global_by, global_after_addresses, sense_at}
use Rattle.ed_syntax.specs.reading.Reading.{step_by, step_after_addresses, step_at}
use Rattle.ed_syntax.proofs.meaning.StepLemmas.{Some-same, none_some, bind-some, chosen, either}
use Rattle.ed_syntax.proofs.reader.AddressesLemmas.{addresses-sound, addresses-complete}
use Rattle.ed_syntax.proofs.reader.QuotingLemmas.{pattern_at-sound, pattern_at-complete, pattern-closing, closing-complete}
use Rattle.ed_syntax.proofs.reader.SubstitutionLemmas.{no_backslash}
use Rattle.ed_syntax.proofs.reader.TextLemmas.{first_line}
use Rattle.ed_syntax.proofs.reader.EndLemmas.{end-of, end-keeps, end-after, addresses-end, pattern-end, closing-end}
use Rattle.ed_syntax.proofs.reader.LetterLemmas.{is_global}
use Rattle.ed_syntax.proofs.reader.StandLemmas.{command_after_addresses-stands}
use Rattle.ed_syntax.proofs.reader.JoinedLemmas.{joined-sound, joined-complete, joined-whole, joined-even}
use Rattle.ed_syntax.proofs.reader.ListSteps.{list-sound, list-complete}
use Rattle.ed_syntax.proofs.reader.CommandLemmas.{ReadsFirst, FirstRead, command_after_addresses-sound, command_after_addresses-complete}

-- a step that is read is spelled so, and may be one of a script
pub record ReadsStep (lines : List (List ℕ)) (r : Step × List (List ℕ)) : Type 0 where
  pub first : ReadsFirst Spells lines r
  pub stands : is_step r.0 ≡ true

-- all that may be read is so
abbrev StepRead : List (List ℕ) → Taken Step → Type 0
StepRead lines read = (r : Step × List (List ℕ)) → read ≡ Some r → ReadsStep lines r

-- a command by itself
single-sound : (line own : List ℕ) (given : Addresses) (later : List (List ℕ)) → AreLines (line ∷ later) → SpellsAddresses line own given →
    StepRead (line ∷ later) (command_after_addresses false given own later >>= λ c. Some (alone c.0, c.1))
single-sound line own given later are addressed r is =
    let c = bind-some (command_after_addresses false given own later) (λ c. Some (alone c.0, c.1)) r is in
    let read = command_after_addresses-sound false line own given later c.0 are addressed c.1 in
    let here = command_after_addresses-stands false given own later c.0 c.1 in
    let verb = c.0.0.verb in
    let unlisted : not c.0.0.listed ≡ true = ap not here.marked in
    let sound = (and_parts (not (is_global verb)) (marks_by_letter verb) here.sound).1 in
    let stands = and_from (not c.0.0.listed && marks_by_letter verb) (list_all is_listed []) (and_from (not c.0.0.listed) (marks_by_letter verb) unlisted sound) refl in
    subst (ReadsStep (line ∷ later)) (Some-same (alone c.0.0, c.0.1) r c.2) (record {
      first = record { bytes = read.bytes; split = read.split; spells = Spells.single read.bytes (bytes_of c.0.1) c.0.0 read.spells; counted = read.counted; are = read.are };
      stands = stands;
    })

-- a global command after its delimiter
global_by-sound : (line bs : List ℕ) (letter delimiter : ℕ) (given : Addresses) (which : Sense) (later : List (List ℕ)) → AreLines (line ∷ later) → SpellsAddresses line (letter ∷ delimiter ∷ bs) given →
    SpellsSense letter which → is_delimiter delimiter ≡ true → StepRead (line ∷ later) (global_by given which delimiter bs later)
global_by-sound line bs letter delimiter given which later are addressed sensed good r is =
    let q = bind-some (pattern_at delimiter bs) (λ q. with_list given which q.0 (joined (drop 1 q.1) later)) r is in
    let more = q.0.1 in
    let first = drop 1 more in
    let joined_is = joined first later in
    let cs = bind-some (list_of joined_is.0) (λ cs. Some (record { command = global_of given which q.0.0; list = cs }, joined_is.1)) r q.2 in
    let quoted = pattern_at-sound delimiter bs q.0 q.1 in
    let closing = pattern-closing delimiter quoted in
    let is_line = All-head IsLine line later are in
    let after = end-of (addresses-end addressed) (end-after letter (end-after delimiter (end-of (pattern-end delimiter quoted) (closing-end delimiter closing)))) in
    let list = joined-sound first later (All-tail IsLine line later are) in
    let first_line = end-keeps (λ b. b ≢ newline) after is_line in
    let read = list-sound joined_is.0 (joined-whole list.spells first_line) (joined-even list.spells first_line) cs.0 cs.1 in
    subst (ReadsStep (line ∷ later)) (Some-same (record { command = global_of given which q.0.0; list = cs.0 }, joined_is.1) r cs.2) (record {
      first = record {
        bytes = line ++ newline ∷ list.bytes;
        split = ap (λ bytes. line ++ newline ∷ bytes) list.split ∙ sym (append_assoc line (newline ∷ list.bytes) (bytes_of joined_is.1));
        spells = Spells.global line bs more first list.bytes (bytes_of joined_is.1) joined_is.0 letter delimiter given which q.0.0 cs.0 is_line addressed sensed good quoted closing list.spells read.spells;
        counted = ap (λ lines. length lines + length joined_is.1) (lines_of-whole line list.bytes is_line) ∙ omega (arith, list.counted);
        are = list.are;
      };
      stands = read.listed;
    })

-- a global command after its letter
global-sound : (line bs : List ℕ) (letter : ℕ) (given : Addresses) (which : Sense) (later : List (List ℕ)) → AreLines (line ∷ later) → SpellsAddresses line (letter ∷ bs) given → SpellsSense letter which →
    StepRead (line ∷ later) (global_after_addresses given which bs later)
global-sound line [] letter given which later are addressed sensed = λ r is. absurd (none_some is)
global-sound line (b ∷ bs) letter given which later are addressed sensed =
    either (StepRead (line ∷ later)) (is_delimiter b) (global_by given which b bs later) None
    (λ good. global_by-sound line bs letter b given which later are addressed sensed good) (λ bad r is. absurd (none_some is))

-- the letter of a global command
pub record ReadsSense (own : List ℕ) (g : Sense × List ℕ) : Type 0 where
  pub letter : ℕ
  pub split : own ≡ letter ∷ g.1
  pub spells : SpellsSense letter g.0

abbrev pub SenseRead : List ℕ → Parsed Sense → Type 0
SenseRead own read = (g : Sense × List ℕ) → read ≡ Some g → ReadsSense own g

sense_known : (b code : ℕ) (bs : List ℕ) (which : Sense) → SpellsSense code which → nat_eq b code ≡ true → SenseRead (b ∷ bs) (Some (which, bs))
sense_known b code bs which spells same g is =
    subst (ReadsSense (b ∷ bs)) (Some-same (which, bs) g is) (record { letter = code; split = ap (λ b. b ∷ bs) (eqb-true b code same); spells = spells })

pub sense-sound : (own : List ℕ) → SenseRead own (sense_at own)
sense-sound [] = λ g is. absurd (none_some is)
sense-sound (b ∷ bs) =
    either (SenseRead (b ∷ bs)) (nat_eq b letter_g) _ _ (sense_known b letter_g bs sense.Matching SpellsSense.matching)
    (λ no_g. either (SenseRead (b ∷ bs)) (nat_eq b letter_v) _ _ (sense_known b letter_v bs sense.Others SpellsSense.others)
    (λ no_v g is. absurd (none_some is)))

-- a step after its addresses
step_by-sound : (line own : List ℕ) (given : Addresses) (later : List (List ℕ)) → AreLines (line ∷ later) → SpellsAddresses line own given → (o : Parsed Sense) → sense_at own ≡ o →
    StepRead (line ∷ later) (step_by o given own later)
step_by-sound line own given later are addressed None is = single-sound line own given later are addressed
step_by-sound line own given later are addressed (Some g) is =
    let read = sense-sound own g is in
    global-sound line g.1 read.letter given g.0 later are (subst (λ own. SpellsAddresses line own given) read.split addressed) read.spells

-- a step that is read is spelled so, and may be one of a script
pub step-sound : (line : List ℕ) (later : List (List ℕ)) (r : Step × List (List ℕ)) → AreLines (line ∷ later) → step_at line later ≡ Some r → ReadsStep (line ∷ later) r
step-sound line later r are is =
    let given = bind-some (addresses line) (λ a. step_after_addresses a.0 a.1 later) r is in
    step_by-sound line given.0.1 given.0.0 later are (addresses-sound line given.0 given.1) (sense_at given.0.1) refl r given.2

-- the letter of a global command that is spelled so is read
pub sense-complete : {letter : ℕ} {which : Sense} → SpellsSense letter which → (bs : List ℕ) → sense_at (letter ∷ bs) ≡ Some (which, bs)
sense-complete SpellsSense.matching bs = refl
sense-complete SpellsSense.others bs = refl

-- what is read after addresses
from_addresses : (line own : List ℕ) (given : Addresses) (later : List (List ℕ)) (o : Parsed Sense) → addresses line ≡ Some (given, own) → sense_at own ≡ o → step_at line later ≡ step_by o given own later
from_addresses line own given later o addressed sensed =
    ap (λ (o : Parsed Addresses). o >>= λ r. step_after_addresses r.0 r.1 later) addressed ∙ ap (λ (o : Parsed Sense). step_by o given own later) sensed

-- a step that is spelled so is read
pub step-complete : {bytes rest : List ℕ} {x : Step} → Spells bytes rest x → (lines : List (List ℕ)) → AreLines lines → bytes ++ rest ≡ bytes_of lines → FirstRead step_at lines rest x
step-complete (Spells.single bytes rest c is) lines are same =
    let found = command_after_addresses-complete false is lines are same in
    record {
      line = found.line;
      later = found.later;
      split = found.split;
      are = found.are;
      left = found.left;
      read = from_addresses found.line found.own found.given found.later None found.addressed found.unsensed
          ∙ ap (λ (o : Taken Command). o >>= λ r. Some (alone r.0, r.1)) found.read;
    }
step-complete (Spells.global line own more first text rest list letter delimiter given which pattern cs is_line addressed sensed good quoted closing joined_is listed) lines are same =
    let here = first_line line (text ++ rest) lines is_line are (sym (append_assoc line (newline ∷ text) rest) ∙ same) in
    let joins = joined-complete joined_is here.later here.are here.after in
    let after = end-of (addresses-end addressed) (end-after letter (end-after delimiter (end-of (pattern-end delimiter quoted) (closing-end delimiter closing)))) in
    let whole = joined-whole joined_is (end-keeps (λ b. b ≢ newline) after is_line) in
    let left = joins.0.lines in
    record {
      line = line;
      later = here.later;
      split = here.split;
      are = All-cons IsLine line here.later is_line here.are;
      left = joins.0;
      read = from_addresses line (letter ∷ delimiter ∷ own) given here.later (Some (which, delimiter ∷ own)) (addresses-complete addressed) (sense-complete sensed (delimiter ∷ own))
          ∙ ap (λ t. chosen t (global_by given which delimiter own here.later) None) good
          ∙ ap (λ (o : Parsed (Option (List ℕ))). o >>= λ q. with_list given which q.0 (joined (drop 1 q.1) here.later)) (pattern_at-complete delimiter quoted (no_backslash delimiter good))
          ∙ ap (λ first. with_list given which pattern (joined first here.later)) (closing-complete delimiter closing)
          ∙ ap (with_list given which pattern) joins.1
          ∙ ap (λ (o : Option (List Command)). o >>= λ cs. Some (record { command = global_of given which pattern; list = cs }, left)) (list-complete listed whole);
    }
