-- Commands without a list: what is read is spelled so, and what is spelled so is read.
use Rattle.std.proofs.Common.{◌≡◌, ℕ, ◌+◌, Bool, true, false, List, [], ◌∷◌, ◌++◌, length, Option, Some, None, refl, sym, ap, ◌∙◌, subst, arith, append_assoc, append-nil}
use Rattle.std.specs.Prelude.{Contains}
use Rattle.std.proofs.lemmas.Bool.{false≢true}
use Rattle.std.proofs.lemmas.List.{length-append}
use Rattle.ed_base.specs.Lines.{newline, IsLine, AreLines, lines_of, bytes_of}
use Rattle.ed_base.proofs.LineLemmas.{lines_of-whole, bytes_of-append}
use Rattle.std.proofs.lemmas.List.Elements.{All-cons, All-head, All-tail}
use Rattle.ed_syntax.specs.Commands as ed
use Rattle.ed_syntax.specs.spelling.CommandLetters.{plain_verbs, file_verbs, entering}
use Rattle.ed_syntax.specs.spelling.Letters.{letter_m, letter_s, letter_t}
use Rattle.ed_syntax.specs.Commands.{Addresses, Form, Verb, Command}
use Rattle.ed_syntax.specs.meaning.Verbs.{takes, may_have, may_stand}
use Rattle.ed_syntax.specs.spelling.Parameters.{SpellsText, SpellsPath}
use Rattle.ed_syntax.specs.spelling.Spellings.{SpellsVerb, SpellsCommand}
use Rattle.ed_syntax.specs.spelling.Addressing.{SpellsAddresses}
use Rattle.ed_syntax.specs.reading.Tokens.{Parsed, ◌>>=◌, addresses}
use Rattle.ed_syntax.specs.reading.ReadCommands.{Heading, Headed, text, with_text, heading_after_addresses, finished, Taken, command_after_addresses, command_at}
use Rattle.ed_syntax.specs.reading.ReadGlobals.{sense_at}
use Rattle.ed_syntax.proofs.meaning.StepLemmas.{Some-same, bind-some, either}
use Rattle.ed_syntax.proofs.reader.LineParts.{same_lines, taken-length}
use Rattle.ed_syntax.proofs.reader.AddressesLemmas.{addresses-sound, addresses-complete}
use Rattle.ed_syntax.proofs.reader.LetterLemmas.{text-keeps}
use Rattle.ed_syntax.proofs.reader.VerbLemmas.{SpellsLetter, file-text, plain-unsensed, file-unsensed}
use Rattle.ed_syntax.proofs.reader.SubstitutionLemmas.{SpellsSubstitution, substitution-left}
use Rattle.ed_syntax.proofs.reader.HeadLemmas.{SpellsHead}
use Rattle.ed_syntax.proofs.reader.SuffixLemmas.{suffix-same}
use Rattle.ed_syntax.proofs.reader.HeadingLemmas.{SpellsHeading, ReadsHeading, heading-sound, heading-complete}
use Rattle.ed_syntax.proofs.reader.TextLemmas.{first_line, LeftLines, text-sound, text-complete}

-- the lines of a verb's text, read from lines: its bytes, and as many lines as they are
pub record ReadsVerb (own more : List ℕ) (lines : List (List ℕ)) (r : Verb × List (List ℕ)) : Type 0 where
  pub bytes : List ℕ
  pub split : bytes_of lines ≡ bytes ++ bytes_of r.1
  pub spells : SpellsVerb own more bytes (bytes_of r.1) r.0
  pub counted : length (lines_of bytes) + length r.1 ≡ length lines
  pub are : AreLines r.1

-- a verb without a text
verb_alone : (own more : List ℕ) (verb : Verb) (lines : List (List ℕ)) → AreLines lines → SpellsVerb own more [] (bytes_of lines) verb → ReadsVerb own more lines (verb, lines)
verb_alone own more verb lines are is = record { bytes = []; split = refl; spells = is; counted = omega arith; are = are }

-- a verb with a text
verb_entered : (own more : List ℕ) (of : List (List ℕ) → Verb) (lines : List (List ℕ)) → AreLines lines →
    ((bytes rest : List ℕ) (entered : List (List ℕ)) → SpellsText bytes rest entered → SpellsVerb own more bytes rest (of entered)) →
    ReadsVerb own more lines (of (text lines).0, (text lines).1)
verb_entered own more of lines are spells =
    let read = text-sound lines are in
    record { bytes = read.bytes; split = read.split; spells = spells read.bytes (bytes_of (text lines).1) (text lines).0 read.spells; counted = read.counted; are = read.are }

-- a text is read where the verb has one
text-none : (verb : Verb) (lines : List (List ℕ)) → (takes verb).text ≡ false → with_text verb lines ≡ (verb, lines)
text-none verb lines none =
    either (λ (r : Verb × List (List ℕ)). r ≡ (verb, lines)) (takes verb).text (entering (text lines).0 verb, (text lines).1) (verb, lines)
    (λ some. absurd (false≢true (sym none ∙ some))) (λ _. refl)

text-some : (verb : Verb) (lines : List (List ℕ)) → (takes verb).text ≡ true → with_text verb lines ≡ (entering (text lines).0 verb, (text lines).1)
text-some verb lines some =
    either (λ (r : Verb × List (List ℕ)). r ≡ (entering (text lines).0 verb, (text lines).1)) (takes verb).text
    (entering (text lines).0 verb, (text lines).1) (verb, lines) (λ _. refl) (λ none. absurd (false≢true (sym none ∙ some)))

-- a letter without parameters that is read with its text is spelled so
plain-sound : (b : ℕ) (verb : Verb) → Contains plain_verbs (b, verb) → (more : List ℕ) (lines : List (List ℕ)) → AreLines lines →
    ReadsVerb (b ∷ more) more lines (with_text verb lines)
plain-sound b verb is more lines are =
    either (ReadsVerb (b ∷ more) more lines) (takes verb).text (entering (text lines).0 verb, (text lines).1) (verb, lines)
    (λ some. verb_entered (b ∷ more) more (λ entered. entering entered verb) lines are
    (λ bytes rest entered spells. SpellsVerb.entered b more bytes rest verb entered is some spells))
    (λ none. verb_alone (b ∷ more) more verb lines are (SpellsVerb.plain b more (bytes_of lines) verb is none))

-- a letter with a path is spelled so
file-sound : (path : Option (List ℕ)) (b : ℕ) (verb : Verb) → Contains (file_verbs path) (b, verb) → (own : List ℕ) → SpellsPath own path →
    (lines : List (List ℕ)) → AreLines lines → ReadsVerb (b ∷ own) [] lines (with_text verb lines)
file-sound path b verb is own spells lines are =
    subst (ReadsVerb (b ∷ own) [] lines) (sym (text-none verb lines (file-text path b verb is)))
    (verb_alone (b ∷ own) [] verb lines are (SpellsVerb.on_file b own (bytes_of lines) path verb is spells))

-- a verb that is read with its text is spelled so
verb-sound : {own more : List ℕ} {verb : Verb} → SpellsLetter own more verb → (lines : List (List ℕ)) → AreLines lines → ReadsVerb own more lines (with_text verb lines)
verb-sound SpellsLetter.null lines are = verb_alone [] [] ed.Null lines are (SpellsVerb.null (bytes_of lines))
verb-sound (SpellsLetter.plain b more verb is) lines are = plain-sound b verb is more lines are
verb-sound {own} (SpellsLetter.mark letter more small) lines are = verb_alone own more (ed.Mark letter) lines are (SpellsVerb.mark letter more (bytes_of lines) small)
verb-sound (SpellsLetter.move own more target is) lines are = verb_alone (letter_m ∷ own) more (ed.Move target) lines are (SpellsVerb.move own more (bytes_of lines) target is)
verb-sound (SpellsLetter.copy own more target is) lines are = verb_alone (letter_t ∷ own) more (ed.Copy target) lines are (SpellsVerb.copy own more (bytes_of lines) target is)
verb-sound (SpellsLetter.file b own path verb is spells) lines are = file-sound path b verb is own spells lines are

-- a letter with its parameters and its text, read from the lines after the parameters
pub record ReadsHead (own more before : List ℕ) (lines : List (List ℕ)) (r : Verb × List (List ℕ)) : Type 0 where
  pub bytes : List ℕ
  pub split : bytes_of lines ≡ bytes ++ bytes_of r.1
  pub spells : SpellsVerb own more (before ++ bytes) (bytes_of r.1) r.0
  pub counted : length (lines_of bytes) + length r.1 ≡ length lines
  pub are : AreLines r.1

head-sound : {own more before : List ℕ} {verb : Verb} → SpellsHead own more before verb → (lines : List (List ℕ)) → AreLines lines → ReadsHead own more before lines (with_text verb lines)
head-sound (SpellsHead.plain own more verb is) lines are =
    let read = verb-sound is lines are in
    record { bytes = read.bytes; split = read.split; spells = read.spells; counted = read.counted; are = read.are }
head-sound (SpellsHead.substitution _ more before _ (SpellsSubstitution.parameters delimiter own after_pattern after_replacement _ _ pattern replacement which form good quoted replaced end)) lines are =
    let verb = ed.Substitute pattern replacement which form in record {
      bytes = [];
      split = refl;
      spells = subst (λ text. SpellsVerb (letter_s ∷ delimiter ∷ own) more text (bytes_of lines) verb) (sym (append-nil before))
          (SpellsVerb.substitute delimiter own after_pattern after_replacement more before (bytes_of lines) pattern replacement which form good quoted replaced end);
      counted = omega arith;
      are = are;
    }

-- a verb that is spelled so: the verb of its letter with the lines of its parameters, and what its text makes of it
pub record VerbRead (own more : List ℕ) (verb : Verb) (lines : List (List ℕ)) (rest : List ℕ) : Type 0 where
  pub entered : Verb
  pub before : List ℕ
  pub head : SpellsHead own more before entered
  pub after : List (List ℕ)
  pub after_are : AreLines after
  pub split : before ++ bytes_of after ≡ bytes_of lines
  pub left : LeftLines rest
  pub read : with_text entered after ≡ (verb, left.lines)

-- the verb of a letter that no text follows
alone_read : (own more : List ℕ) (verb : Verb) (lines : List (List ℕ)) (rest : List ℕ) → AreLines lines → rest ≡ bytes_of lines → SpellsLetter own more verb → with_text verb lines ≡ (verb, lines) →
    VerbRead own more verb lines rest
alone_read own more verb lines rest are same is read = record {
  entered = verb;
  before = [];
  head = SpellsHead.plain own more verb is;
  after = lines;
  after_are = are;
  split = refl;
  left = record { lines = lines; split = same; are = are };
  read = read;
}

-- the verb of a letter that a text follows
entered_read : (b : ℕ) (more : List ℕ) (verb : Verb) (bytes rest : List ℕ) (entered lines : List (List ℕ)) → SpellsText bytes rest entered →
    AreLines lines → bytes ++ rest ≡ bytes_of lines → Contains plain_verbs (b, verb) → (takes verb).text ≡ true →
    VerbRead (b ∷ more) more (entering entered verb) lines rest
entered_read b more verb bytes rest entered lines spells are same is some =
    let read = text-complete spells lines are same in record {
      entered = verb;
      before = [];
      head = SpellsHead.plain (b ∷ more) more verb (SpellsLetter.plain b more verb is);
      after = lines;
      after_are = are;
      split = refl;
      left = read.0;
      read = text-some verb lines some ∙ ap (λ r. (entering r.0 verb, r.1)) read.1;
    }

-- `s` that is spelled so
substitute_read : {own more before rest : List ℕ} {verb : Verb} → SpellsSubstitution own more before verb → (lines : List (List ℕ)) → AreLines lines → before ++ rest ≡ bytes_of lines →
    ((later : List (List ℕ)) → with_text verb later ≡ (verb, later)) → VerbRead (letter_s ∷ own) more verb lines rest
substitute_read {own} {more} {before} {rest} {verb} is lines are same unchanged =
    let left = substitution-left is lines rest are same in record {
      entered = verb;
      before = before;
      head = SpellsHead.substitution own more before verb is;
      after = left.lines;
      after_are = left.are;
      split = ap (λ bytes. before ++ bytes) (sym left.split) ∙ same;
      left = left;
      read = unchanged left.lines;
    }

verb-complete : {own more bytes rest : List ℕ} {verb : Verb} → SpellsVerb own more bytes rest verb → (lines : List (List ℕ)) → AreLines lines → bytes ++ rest ≡ bytes_of lines → VerbRead own more verb lines rest
verb-complete (SpellsVerb.null rest) lines are same = alone_read [] [] ed.Null lines rest are same SpellsLetter.null refl
verb-complete (SpellsVerb.plain b more rest verb is none) lines are same =
    alone_read (b ∷ more) more verb lines rest are same (SpellsLetter.plain b more verb is) (text-none verb lines none)
verb-complete (SpellsVerb.entered b more bytes rest verb entered is some spells) lines are same =
    entered_read b more verb bytes rest entered lines spells are same is some
verb-complete (SpellsVerb.on_file b own rest path verb is spells) lines are same =
    alone_read (b ∷ own) [] verb lines rest are same (SpellsLetter.file b own path verb is spells)
    (text-none verb lines (file-text path b verb is))
verb-complete {own} (SpellsVerb.mark letter more rest small) lines are same =
    alone_read own more (ed.Mark letter) lines rest are same (SpellsLetter.mark letter more small) refl
verb-complete (SpellsVerb.move own more rest target is) lines are same =
    alone_read (letter_m ∷ own) more (ed.Move target) lines rest are same (SpellsLetter.move own more target is) refl
verb-complete (SpellsVerb.copy own more rest target is) lines are same =
    alone_read (letter_t ∷ own) more (ed.Copy target) lines rest are same (SpellsLetter.copy own more target is) refl
verb-complete (SpellsVerb.substitute delimiter own after_pattern after_replacement more text rest pattern replacement which form good quoted replaced end)
    lines are same =
    substitute_read
    (SpellsSubstitution.parameters delimiter own after_pattern after_replacement more text pattern replacement which form good quoted replaced end)
    lines are same (λ later. refl)

-- a text changes nothing of what its command takes and where it may stand
may_have-text : (given : Addresses) (verb : Verb) (later : List (List ℕ)) → may_have given (with_text verb later).0 ≡ may_have given verb
may_have-text ed.Without verb later = refl
may_have-text given verb later = text-keeps (may_have given) (λ new old. (refl, refl, refl)) verb later

may_stand-text : (listed : Bool) (verb : Verb) (later : List (List ℕ)) → may_stand listed (with_text verb later).0 ≡ may_stand listed verb
may_stand-text listed = text-keeps (may_stand listed) (λ new old. (refl, refl, refl))

suffix-text : (verb : Verb) (later : List (List ℕ)) → (takes (with_text verb later).0).suffix ≡ (takes verb).suffix
suffix-text = text-keeps (λ verb. (takes verb).suffix) (λ new old. (refl, refl, refl))

-- what was read from lines: its bytes, and as many lines as they are
pub record ReadsFirst {A : Type 0} (Spells : List ℕ → List ℕ → A → Type 0) (lines : List (List ℕ)) (r : A × List (List ℕ)) : Type 0 where
  pub bytes : List ℕ
  pub split : bytes_of lines ≡ bytes ++ bytes_of r.1
  pub spells : Spells bytes (bytes_of r.1) r.0
  pub counted : length (lines_of bytes) + length r.1 ≡ length lines
  pub are : AreLines r.1

-- what was read after addresses, with its text, is spelled so
finished-sound : (listed : Bool) (line own : List ℕ) (given : Addresses) (later : List (List ℕ)) (h : Headed) → IsLine line → SpellsAddresses line own given → ReadsHeading listed given own later h →
    ReadsFirst (SpellsCommand listed) (line ∷ later) (finished listed h.0 h.1)
finished-sound listed line own given later h is_line addressed is =
    let here = is.spells in
    let text = head-sound here.head h.1 is.are in
    let verb = (with_text h.0.verb h.1).0 in
    let rest = (with_text h.0.verb h.1).1 in
    let front = bytes_of is.taken in
    let all : bytes_of later ≡ (front ++ text.bytes) ++ bytes_of rest =
    ap bytes_of is.split ∙ bytes_of-append is.taken h.1 ∙ ap (λ bytes. front ++ bytes) text.split ∙ sym (append_assoc front text.bytes (bytes_of rest)) in
    record {
      bytes = line ++ newline ∷ (front ++ text.bytes);
      split = ap (λ bytes. line ++ newline ∷ bytes) all ∙ sym (append_assoc line (newline ∷ (front ++ text.bytes)) (bytes_of rest));
      spells = SpellsCommand.command line own here.more (front ++ text.bytes) (bytes_of rest) h.0.addresses verb h.0.suffix is_line
          (subst (SpellsAddresses line own) (sym is.addresses) addressed) text.spells
          (may_have-text h.0.addresses h.0.verb h.1 ∙ here.allowed) (may_stand-text listed h.0.verb h.1 ∙ here.standing) (suffix-same here.end verb (suffix-text h.0.verb h.1));
      counted = ap (λ lines. length lines + length rest) (lines_of-whole line (front ++ text.bytes) is_line)
          ∙ omega (arith, text.counted, taken-length is.taken text.bytes is.taken_are, ap length is.split, length-append is.taken h.1);
      are = text.are;
    }

-- a command that is read after its addresses is spelled so
pub command_after_addresses-sound : (listed : Bool) (line own : List ℕ) (given : Addresses) (later : List (List ℕ)) (r : Command × List (List ℕ)) → AreLines (line ∷ later) → SpellsAddresses line own given →
    command_after_addresses listed given own later ≡ Some r → ReadsFirst (SpellsCommand listed) (line ∷ later) r
command_after_addresses-sound listed line own given later r are addressed is =
    let h = bind-some (heading_after_addresses listed given own later) (λ h. Some (finished listed h.0 h.1)) r is in
    subst (ReadsFirst (SpellsCommand listed) (line ∷ later)) (Some-same (finished listed h.0.0 h.0.1) r h.2)
    (finished-sound listed line own given later h.0 (All-head IsLine line later are) addressed (heading-sound listed given own later h.0 (All-tail IsLine line later are) h.1))

-- a command that is read is spelled so
pub command-sound : (listed : Bool) (line : List ℕ) (later : List (List ℕ)) (r : Command × List (List ℕ)) → AreLines (line ∷ later) → command_at listed line later ≡ Some r →
    ReadsFirst (SpellsCommand listed) (line ∷ later) r
command-sound listed line later r are is =
    let given = bind-some (addresses line) (λ a. command_after_addresses listed a.0 a.1 later) r is in
    command_after_addresses-sound listed line given.0.1 given.0.0 later r are (addresses-sound line given.0 given.1) given.2

-- what is spelled so: the lines from its own on, and what is read there
pub record FirstRead {A : Type 0} (read_at : List ℕ → List (List ℕ) → Taken A) (lines : List (List ℕ)) (rest : List ℕ) (x : A) : Type 0 where
  pub line : List ℕ
  pub later : List (List ℕ)
  pub split : lines ≡ line ∷ later
  pub are : AreLines (line ∷ later)
  pub left : LeftLines rest
  pub read : read_at line later ≡ Some (x, left.lines)

-- a command that is spelled so: the lines from its own on, its addresses, and what is read after them
pub record CommandRead (listed : Bool) (lines : List (List ℕ)) (rest : List ℕ) (c : Command) : Type 0 where
  pub line : List ℕ
  pub own : List ℕ
  pub given : Addresses
  pub later : List (List ℕ)
  pub split : lines ≡ line ∷ later
  pub are : AreLines (line ∷ later)
  pub left : LeftLines rest
  pub addressed : addresses line ≡ Some (given, own)
  pub unsensed : sense_at own ≡ None
  pub read : command_after_addresses listed given own later ≡ Some (c, left.lines)

-- no letter but `g` and `v` is that of a global command
verb-unsensed : {own more text rest : List ℕ} {verb : Verb} → SpellsVerb own more text rest verb → sense_at own ≡ None
verb-unsensed (SpellsVerb.null rest) = refl
verb-unsensed (SpellsVerb.plain letter more rest verb is none) = plain-unsensed letter verb is more
verb-unsensed (SpellsVerb.entered letter more text rest verb lines is some spells) = plain-unsensed letter verb is more
verb-unsensed (SpellsVerb.on_file letter own rest path verb is spells) = file-unsensed path letter verb is own
verb-unsensed (SpellsVerb.mark letter more rest small) = refl
verb-unsensed (SpellsVerb.move own more rest target is) = refl
verb-unsensed (SpellsVerb.copy own more rest target is) = refl
verb-unsensed
    (SpellsVerb.substitute delimiter own after_pattern after_replacement more text rest pattern replacement which form good quoted replaced end) =
    refl

abbrev command_with : Bool → Addresses → Option Form → Verb × List (List ℕ) → Command × List (List ℕ)
command_with listed given suffix r = (record { addresses = given; verb = r.0; suffix = suffix; listed = listed }, r.1)

-- a command that is spelled so is read after its addresses
pub command_after_addresses-complete : (listed : Bool) {bytes rest : List ℕ} {c : Command} → SpellsCommand listed bytes rest c → (lines : List (List ℕ)) → AreLines lines → bytes ++ rest ≡ bytes_of lines →
    CommandRead listed lines rest c
command_after_addresses-complete listed (SpellsCommand.command line own more text rest given verb suffix is_line addressed is allowed standing end) lines are same =
    let first = first_line line (text ++ rest) lines is_line are (sym (append_assoc line (newline ∷ text) rest) ∙ same) in
    let after = verb-complete is first.later first.are first.after in
    let fits : may_have given after.entered ≡ true = sym (may_have-text given after.entered after.after) ∙ ap (λ r. may_have given r.0) after.read ∙ allowed in
    let stands : may_stand listed after.entered ≡ true = sym (may_stand-text listed after.entered after.after) ∙ ap (λ r. may_stand listed r.0) after.read ∙ standing in
    let suffixed : (takes after.entered).suffix ≡ (takes verb).suffix = sym (suffix-text after.entered after.after) ∙ ap (λ r. (takes r.0).suffix) after.read in
    let h : Heading = record { addresses = given; verb = after.entered; suffix = suffix } in
    let spells : SpellsHeading listed own after.before h =
    record { more = more; head = after.head; allowed = fits; standing = stands; end = suffix-same end after.entered suffixed } in
    let read = heading-complete listed own after.before h spells first.later (bytes_of after.after) first.are after.split in
    let left : read.0.lines ≡ after.after = same_lines read.0.lines after.after read.0.are after.after_are (sym read.0.split) in
    record {
      line = line;
      own = own;
      given = given;
      later = first.later;
      split = first.split;
      are = All-cons IsLine line first.later is_line first.are;
      left = after.left;
      addressed = addresses-complete addressed;
      unsensed = verb-unsensed is;
      read = ap (λ (o : Option Headed). o >>= λ h. Some (finished listed h.0 h.1)) (read.1 ∙ ap (λ lines. Some (h, lines)) left) ∙ ap (λ r. Some (command_with listed given suffix r)) after.read;
    }

-- a command that is spelled so is read
pub command-complete : (listed : Bool) {bytes rest : List ℕ} {c : Command} → SpellsCommand listed bytes rest c → (lines : List (List ℕ)) → AreLines lines → bytes ++ rest ≡ bytes_of lines →
    FirstRead (command_at listed) lines rest c
command-complete listed is lines are same =
    let found = command_after_addresses-complete listed is lines are same in
    record {
      line = found.line;
      later = found.later;
      split = found.split;
      are = found.are;
      left = found.left;
      read = ap (λ (o : Parsed Addresses). o >>= λ r. command_after_addresses listed r.0 r.1 found.later) found.addressed ∙ found.read;
    }
