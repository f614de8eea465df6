-- What a command keeps: how lines are marked, that no line holds a newline, and in a list undo, flags, and the buffer before the global.
use Rattle.std.proofs.Common.{◌≡◌, ◌≤◌, inl, inr, Bool, true, false, not, ◌&&◌, ℕ, List, map, Option, Some, None, option_map, Ok, IfOk, refl, sym, ap, ◌∙◌, subst, arith}
use Rattle.std.specs.Prelude.{ok_or, All}
use Rattle.std.proofs.lemmas.Bool.{and_parts, false≢true}
use Rattle.std.proofs.lemmas.Result.{IfOk-at_ok}
use Rattle.ed_base.specs.Buffer.{Line, plain_line, with_flag}
use Rattle.ed_base.specs.Lines.{lines_of}
use Rattle.ed_base.specs.declared.fault.Fault.TheVariants as fault
use Rattle.ed_syntax.specs.declared.request.Answer.{Answer}
use Rattle.ed_syntax.specs.declared.request.Request.{Request}
use Rattle.ed_syntax.specs.declared.request.Request.TheVariants as request
use Rattle.ed_syntax.specs.Commands.{Verb, Command}
use Rattle.ed_syntax.specs.meaning.Verbs.{may_be_listed, marks_by_letter, has_split, is_listed}
use Rattle.ed_syntax.specs.spelling.Readable.{enters_lines}
use Rattle.ed_syntax.specs.meaning.States.{State, Kept, Past, Open, kept, unflagged, noted}
use Rattle.ed_syntax.specs.meaning.Effects.{Outcome, Effect, Makes, Asks}
use Rattle.ed_syntax.specs.meaning.Files.{used_path}
use Rattle.ed_syntax.specs.meaning.Globals.{flags}
use Rattle.ed_syntax.specs.meaning.Applied.{Placed, placed, effect_of, suffix_written, past_after, changed_from, settled, completed, command}
pub use Rattle.ed_syntax.specs.meaning.CommandLaws.{InOrder}
use Rattle.ed_syntax.specs.meaning.CommandLaws.{KeepsTheRest, ListsLeaveUndo, ListsAddNoFlags, Notes, ListsNoteChanges, WellMarked, AreWhole, OfPast, OfLines, OfOpen, CommandsKeepMarks, OpenKeepsMarks, CommandsKeepLines, FilesAreWellMarked, FilesAreWhole, FlagsMarkNothing, FlagsAreNoBytes}
use Rattle.ed_syntax.specs.meaning.Laws.{FilesAreWrittenByTheirPath}
use Rattle.ed_syntax.proofs.meaning.StepLemmas.{either}
use Rattle.ed_syntax.proofs.meaning.FaultSteps.{Gives}
use Rattle.ed_syntax.proofs.meaning.ResultLemmas.{IfOk-bind, IfOk-after}
use Rattle.ed_syntax.proofs.meaning.PlaceLemmas.{commands_are_placed}
use Rattle.ed_syntax.proofs.meaning.MarkLemmas.{well-plain, well-mapped, well-unmapped}
use Rattle.ed_syntax.proofs.meaning.WholeLemmas.{IsWhole, lines_of-lines, whole-plain, whole-mapped, whole-unmapped}
use Rattle.ed_syntax.proofs.meaning.GlobalLemmas.{flagged_of}
use Rattle.ed_syntax.proofs.meaning.Reshaping.{Reshaped, well-reshaped, fewer-reshaped}
use Rattle.ed_syntax.proofs.meaning.EachLine.{IsKeptOfEach, all-reshaped, all-plain, all-mapped}
use Rattle.ed_syntax.proofs.meaning.EffectShapes.{Within, Shape, IsAsked, IsShaped, effect-shapes}

-- what a command did, where it was placed, and what came of it
pub record CommandDone (s : State) (c : Command) (o : Outcome) : Type 0 where
  pub placed : State
  pub made : Outcome
  pub rest : KeepsTheRest s placed
  pub shape : Shape c.verb placed made
  pub state : o.state ≡ settled c.listed (kept s) made

abbrev Done : State → Command → Effect → Type 0
Done s c (Makes o) = CommandDone s c o
Done s c (Asks r) = IsAsked c.verb s r

-- what is asked for is the same before the addresses
same-path : (own : Option (List ℕ)) (s t : State) → t.name ≡ s.name → used_path own s ≡ used_path own t
same-path (Some path) s t same = refl
same-path None s t same = ap (λ (name : Option (List ℕ)). ok_or name fault.Name) (sym same)

asked-before : (verb : Verb) (s t : State) (r : Request) → KeepsTheRest s t → IsAsked verb t r → IsAsked verb s r
asked-before verb s t (request.Read path) rest asked = tt
asked-before verb s t (request.Write path bytes) rest asked =
    (asked.0, asked.1, same-path asked.0 s t (ap (λ (u : State). u.name) rest) ∙ asked.2)

completed-done : (c : Command) (s t : State) (e : Effect) → KeepsTheRest s t → IsShaped c.verb t e → IfOk (completed c s e) (Done s c)
completed-done c s t (Asks r) rest asked = asked-before c.verb s t r rest asked
completed-done c s t (Makes o) rest shape =
    IfOk-after (Done s c) (suffix_written c.suffix o.state) _ (λ more.
    record { placed = t; made = o; rest = rest; shape = shape; state = refl })

commands-done : (s : State) (c : Command) (given : Option Answer) → IfOk (command s c given) (Done s c)
commands-done s c given =
    IfOk-bind (λ (p : Placed). KeepsTheRest s p.state × InOrder p.span) (Done s c) (placed c s) _ (commands_are_placed c s) (λ p well.
    IfOk-bind (IsShaped c.verb p.state) (Done s c)
    (effect_of c.verb c.listed p.span p.target p.state given) _
    (effect-shapes c.verb c.listed p.span p.target p.state given well.1) (λ e shape.
    completed-done c s p.state e well.0 shape))

command-done : (s : State) (c : Command) (given : Option Answer) (o : Outcome) → command s c given ≡ Ok (Makes o) → CommandDone s c o
command-done s c given o is = IfOk-at_ok (Done s c) is (commands-done s c given)

pub files_are_written_by_their_path : FilesAreWrittenByTheirPath
files_are_written_by_their_path s c given path bytes is = IfOk-at_ok (Done s c) is (commands-done s c given)

-- the same lines, undo and global command that is open, and lines in order, by an equation for each place
pub record SameBuffer (s t : State) : Type 0 where
  pub lines : t.lines ≡ s.lines
  pub past : t.past ≡ s.past
  pub global : t.global ≡ s.global

pub record PlacedWell (s : State) (p : Placed) : Type 0 where
  pub same : SameBuffer s p.state
  pub order : InOrder p.span

pub placed-well : (c : Command) (s : State) → Gives (PlacedWell s) (placed c s)
placed-well c s p is =
    let well = IfOk-at_ok (λ (p : Placed). KeepsTheRest s p.state × InOrder p.span) is (commands_are_placed c s) in
    let rest = well.0 in
    record {
      same = record {
        lines = ap (λ (t : State). t.lines) rest;
        past = ap (λ (t : State). t.past) rest;
        global = ap (λ (t : State). t.global) rest;
      };
      order = well.1;
    }

-- LINES

-- what is kept by each shape of an effect, and holds of a file's lines and of lines without their flags
pub record IsKept (verb : Verb) (P : List Line → Type 0) : Type 0 where
  pub reshaped : (xs ys : List Line) → Reshaped verb xs ys → P xs → P ys
  pub loaded : (bytes : List ℕ) → P (map plain_line (lines_of bytes))
  pub unflagged : (xs : List Line) → P xs → P (unflagged xs)

module _ (P : List Line → Type 0) where
  shape-keeps : (verb : Verb) (s : State) (o : Outcome) → IsKept verb P → Shape verb s o → OfLines P s → OfLines P o.state
  shape-keeps verb s o k (Shape.within w) h = record {
    buffer = k.reshaped s.lines o.state.lines w.lines h.buffer;
    past = subst (λ (p : Past). OfPast P p) (sym w.past) h.past;
  }
  shape-keeps verb s o k (Shape.loads l) h = record {
    buffer = subst (λ (ls : List Line). P ls) (sym l.lines) (k.loaded l.bytes);
    past = subst (λ (p : Past). OfPast P p) (sym l.past) tt;
  }
  shape-keeps verb s o k (Shape.brings_back b) h = record {
    buffer = subst (λ (ls : List Line). P ls) (sym b.lines) (subst (λ (p : Past). OfPast P p) b.was h.past);
    past = subst (λ (p : Past). OfPast P p) (sym b.past) (k.unflagged s.lines h.buffer);
  }

  past_after-keeps : (listed : Bool) (before : Kept) (past : Past) → P before.lines → OfPast P past →
      OfPast P (past_after listed before past)
  past_after-keeps true before past now earlier = earlier
  past_after-keeps false before past now earlier = now

  settled-keeps : (listed : Bool) (before : Kept) (o : Outcome) → P before.lines → OfLines P o.state →
      OfLines P (settled listed before o)
  settled-keeps listed before o now h =
      either (OfLines P) o.alters (changed_from listed before o.state) o.state
      (λ alters. record { buffer = h.buffer; past = past_after-keeps listed before o.state.past now h.past })
      (λ alters. h)

  -- where a command is placed the lines are as before
  placed-keeps : (s t : State) → KeepsTheRest s t → OfLines P s → OfLines P t
  placed-keeps s t rest h = let q = subst (OfLines P) (sym rest) h in record { buffer = q.buffer; past = q.past }

  pub commands-keep : (s : State) (c : Command) (given : Option Answer) (o : Outcome) → command s c given ≡ Ok (Makes o) → IsKept c.verb P →
      OfLines P s → OfLines P o.state
  commands-keep s c given o is k h =
      let done = command-done s c given o is in
      subst (OfLines P) (sym done.state)
      (settled-keeps c.listed (kept s) done.made (k.unflagged s.lines h.buffer)
      (shape-keeps c.verb done.placed done.made k done.shape (placed-keeps s done.placed done.rest h)))

  -- the buffer before a global command that is open
  open-kept : (verb : Verb) (s : State) (o : Outcome) → Shape verb s o → OfOpen P s.global → OfOpen P o.state.global
  open-kept verb s o (Shape.within w) h = subst (λ (g : Option Open). OfOpen P g) (sym w.global) h
  open-kept verb s o (Shape.loads l) h = subst (λ (g : Option Open). OfOpen P g) (sym l.global) tt
  open-kept verb s o (Shape.brings_back b) h = subst (λ (g : Option Open). OfOpen P g) (sym b.global) h

  noted-kept : (g : Option Open) → OfOpen P g → OfOpen P (option_map noted g)
  noted-kept None h = tt
  noted-kept (Some g) h = h

  settled-open : (listed : Bool) (before : Kept) (o : Outcome) → OfOpen P o.state.global → OfOpen P (settled listed before o).global
  settled-open listed before o h =
      either (λ (t : State). OfOpen P t.global) o.alters (changed_from listed before o.state) o.state
      (λ alters. noted-kept o.state.global h)
      (λ alters. h)

  open-keeps : (s : State) (c : Command) (given : Option Answer) (o : Outcome) → command s c given ≡ Ok (Makes o) →
      OfOpen P s.global → OfOpen P o.state.global
  open-keeps s c given o is h =
      let done = command-done s c given o is in
      subst (λ (t : State). OfOpen P t.global) (sym done.state)
      (settled-open c.listed (kept s) done.made
      (open-kept c.verb done.placed done.made done.shape (subst (λ (t : State). OfOpen P t.global) (sym done.rest) h)))

marks-kept : (verb : Verb) → IsKept verb WellMarked
marks-kept verb = record {
  reshaped = well-reshaped verb;
  loaded = λ bytes. well-plain (lines_of bytes);
  unflagged = λ xs marked. well-mapped (with_flag false) (λ line. refl) xs marked;
}

pub commands_keep_marks : CommandsKeepMarks
commands_keep_marks s c given o is h = commands-keep WellMarked s c given o is (marks-kept c.verb) h

pub open_keeps_marks : OpenKeepsMarks
open_keeps_marks = open-keeps WellMarked

-- and so is what is kept of each line
each-kept : (verb : Verb) (P : Line → Type 0) → IsKeptOfEach verb P → IsKept verb (λ xs. All P xs)
each-kept verb P k = record {
  reshaped = all-reshaped verb P k;
  loaded = λ bytes. all-plain P k.plain (lines_of bytes) (lines_of-lines bytes);
  unflagged = λ xs all. all-mapped P (with_flag false) k.unflagged xs all;
}

pub commands-keep-each : (P : Line → Type 0) (s : State) (c : Command) (given : Option Answer) (o : Outcome) → command s c given ≡ Ok (Makes o) →
    IsKeptOfEach c.verb P → OfLines (λ xs. All P xs) s → OfLines (λ xs. All P xs) o.state
commands-keep-each P s c given o is k h = commands-keep (λ xs. All P xs) s c given o is (each-kept c.verb P k) h

whole-kept : (verb : Verb) → enters_lines verb ≡ true → IsKeptOfEach verb IsWhole
whole-kept verb enters = record {
  plain = λ bytes line. line;
  entered = λ xs texts lines all. whole-plain texts (lines enters all);
  lettered = λ letter marks line whole. whole;
  unflagged = λ line whole. whole;
  flagged = λ which own text is uses line whole. whole;
}

pub commands_keep_lines : CommandsKeepLines
commands_keep_lines s c given o is enters h = commands-keep-each IsWhole s c given o is (whole-kept c.verb enters) h

-- files, and flags

pub files_are_well_marked : FilesAreWellMarked
files_are_well_marked bytes = well-plain (lines_of bytes)

pub files_are_whole : FilesAreWhole
files_are_whole bytes = whole-plain (lines_of bytes) (lines_of-lines bytes)

pub flags_mark_nothing : FlagsMarkNothing
flags_mark_nothing lines others same marked =
    well-unmapped (with_flag false) (λ line. refl) others
    (subst WellMarked same (well-mapped (with_flag false) (λ line. refl) lines marked))

pub flags_are_no_bytes : FlagsAreNoBytes
flags_are_no_bytes lines others same all =
    whole-unmapped (with_flag false) (λ line. refl) others
    (subst (λ (ls : List Line). AreWhole ls) same (whole-mapped (with_flag false) (λ line. refl) lines all))

-- LISTS

-- a command of a list is listed, and may be
pub in-list : (c : Command) → is_listed c ≡ true → (c.listed ≡ true) × (may_be_listed c.verb ≡ true)
in-list c is =
    let sound : Bool = c.listed && marks_by_letter c.verb in
    let both = and_parts sound (may_be_listed c.verb) (and_parts (sound && may_be_listed c.verb) (not (has_split c.verb)) is).0 in
    ((and_parts c.listed (marks_by_letter c.verb) both.0).0, both.1)

-- so its effect neither loads nor brings back
within-list : (verb : Verb) (s : State) (o : Outcome) → may_be_listed verb ≡ true → Shape verb s o → Within verb s o
within-list verb s o may (Shape.within w) = w
within-list verb s o may (Shape.loads l) = absurd (false≢true (sym l.unlisted ∙ may))
within-list verb s o may (Shape.brings_back b) = absurd (false≢true (sym b.unlisted ∙ may))

-- what a settled outcome holds
settled-lines : (listed : Bool) (before : Kept) (o : Outcome) → (settled listed before o).lines ≡ o.state.lines
settled-lines listed before o =
    either (λ (t : State). t.lines ≡ o.state.lines) o.alters (changed_from listed before o.state) o.state (λ alters. refl) (λ alters. refl)

settled-past : (before : Kept) (o : Outcome) → (settled true before o).past ≡ o.state.past
settled-past before o =
    either (λ (t : State). t.past ≡ o.state.past) o.alters (changed_from true before o.state) o.state (λ alters. refl) (λ alters. refl)

settled-notes : (verb : Verb) (s : State) (listed : Bool) (before : Kept) (o : Outcome) → Within verb s o →
    Notes verb s.global (settled listed before o).global
settled-notes verb s listed before o w =
    either (λ (t : State). Notes verb s.global t.global) o.alters (changed_from listed before o.state) o.state
    (λ alters. inr (w.alters alters, ap (option_map noted) w.global))
    (λ stays. inl w.global)

module _ (s : State) (c : Command) (given : Option Answer) (o : Outcome) (is : command s c given ≡ Ok (Makes o))
    (listed : is_listed c ≡ true) where
  -- what it did
  done : CommandDone s c o
  done = command-done s c given o is

  did : Within c.verb done.placed done.made
  did = within-list c.verb done.placed done.made (in-list c listed).1 done.shape

  undo-left : o.state.past ≡ s.past
  undo-left =
      ap (λ (t : State). t.past) done.state
      ∙ ap (λ listed. (settled listed (kept s) done.made).past) (in-list c listed).0
      ∙ settled-past (kept s) done.made
      ∙ did.past
      ∙ ap (λ (t : State). t.past) done.rest

  pub reshaped-in-list : Reshaped c.verb s.lines o.state.lines
  reshaped-in-list =
      let now : done.made.state.lines ≡ o.state.lines = sym (ap (λ (t : State). t.lines) done.state ∙ settled-lines c.listed (kept s) done.made) in
      let then : done.placed.lines ≡ s.lines = ap (λ (t : State). t.lines) done.rest in
      subst (λ (xs : List Line). Reshaped c.verb xs o.state.lines) then (subst (λ (ys : List Line). Reshaped c.verb done.placed.lines ys) now did.lines)

  flags-left : flags o.state ≤ flags s
  flags-left =
      let now : flags o.state ≡ flagged_of done.made.state.lines =
      ap flags done.state ∙ ap flagged_of (settled-lines c.listed (kept s) done.made) in
      let then : flagged_of done.placed.lines ≡ flags s = ap flags done.rest in
      omega (arith, now, then, fewer-reshaped c.verb done.placed.lines (in-list c listed).1 done.made.state.lines did.lines)

  changes-noted : Notes c.verb s.global o.state.global
  changes-noted =
      subst (λ (t : State). Notes c.verb s.global t.global) (sym done.state)
      (subst (λ (t : State). Notes c.verb t.global (settled c.listed (kept s) done.made).global) done.rest
      (settled-notes c.verb done.placed c.listed (kept s) done.made did))

-- so a command of a list needs nothing of what undo keeps
pub lists-keep-each : (P : Line → Type 0) (s : State) (c : Command) (given : Option Answer) (o : Outcome) → command s c given ≡ Ok (Makes o) →
    is_listed c ≡ true → IsKeptOfEach c.verb P → All P s.lines → All P o.state.lines
lists-keep-each P s c given o is listed k h = all-reshaped c.verb P k s.lines o.state.lines (reshaped-in-list s c given o is listed) h

pub lists_leave_undo : ListsLeaveUndo
lists_leave_undo = undo-left

pub lists_add_no_flags : ListsAddNoFlags
lists_add_no_flags = flags-left

pub lists_note_changes : ListsNoteChanges
lists_note_changes = changes-noted
