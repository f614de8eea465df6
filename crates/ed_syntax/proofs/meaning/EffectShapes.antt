-- What each command's effect is: it asks for a file, changes the lines in one of a few shapes, puts a file in their place, or brings back
-- what undo keeps.
use Rattle.std.proofs.Common.{◌≡◌, ℕ, ◌-◌, Bool, true, false, ◌&&◌, nat_le, List, [], ◌∷◌, map, Option, Some, None, Result, Ok, Err, IfOk, refl, sym, subst, arith}
use Rattle.std.specs.Prelude.{nat_lt}
use Rattle.std.specs.List.{concat}
use Rattle.std.proofs.lemmas.Bool.{false≢true}
use Rattle.std.proofs.lemmas.List.Elements.{All-nil, All-cons}
use Rattle.ed_base.specs.Buffer.{plain_line, texts}
use Rattle.ed_base.specs.Lines.{IsLine, AreLines, lines_of}
use Rattle.ed_base.specs.Parts.{between, replaced}
use Rattle.ed_base.specs.declared.fault.Fault.{Fault}
use Rattle.ed_syntax.specs.declared.command.Sense.{Sense}
use Rattle.ed_syntax.specs.declared.replacement.Part.{Part}
use Rattle.ed_syntax.specs.declared.replacement.Which.{Which}
use Rattle.ed_syntax.specs.declared.request.Answer.{Answer}
use Rattle.ed_syntax.specs.declared.request.Answer.TheVariants as answer
use Rattle.ed_syntax.specs.declared.request.Request.{Request}
use Rattle.ed_syntax.specs.declared.request.Request.TheVariants as request
use Rattle.ed_syntax.specs.Commands as ed
use Rattle.ed_syntax.specs.Commands.{Address, Form, Verb}
use Rattle.ed_syntax.specs.meaning.Verbs.{may_be_listed, may_alter}
use Rattle.ed_syntax.specs.spelling.Readable.{enters_lines}
use Rattle.ed_syntax.specs.meaning.States.{State, Kept, Past, Nothing, Same, Was, kept}
use Rattle.ed_syntax.specs.meaning.Values.{◌>>◌, used_pattern}
use Rattle.ed_syntax.specs.meaning.Ranges.{Span}
use Rattle.ed_syntax.specs.meaning.Effects as effect
use Rattle.ed_syntax.specs.meaning.Effects.{Outcome, Effect, Makes, Asks, only, entered}
use Rattle.ed_syntax.specs.meaning.SubstitutedLines as substitution
use Rattle.ed_syntax.specs.meaning.SubstitutedLines.{Results, made_of, each, used_replacement}
use Rattle.ed_syntax.specs.meaning.Files as file
use Rattle.ed_syntax.specs.meaning.Files.{used_path, named_first, bytes_read, with_bytes, written_to, with_lines, saved}
use Rattle.ed_syntax.specs.meaning.Globals.{flagged}
use Rattle.ed_syntax.specs.meaning.Applied.{making, effect_of}
use Rattle.ed_syntax.specs.meaning.CommandLaws.{InOrder, AreWhole}
use Rattle.ed_syntax.proofs.meaning.StepLemmas.{either}
use Rattle.ed_syntax.proofs.meaning.ResultLemmas.{IfOk-bind, IfOk-itself, IfOk-after}
use Rattle.ed_syntax.proofs.spelled.ReadableLemmas.{lines-are}
use Rattle.ed_syntax.proofs.meaning.WholeLemmas.{lines_of-lines, whole-block, whole-texts, line-concat}
use Rattle.ed_syntax.proofs.meaning.Reshaping as shape
use Rattle.ed_syntax.proofs.meaning.Reshaping.{Reshaped}

-- an effect that leaves undo, and the global command that is open, as they are
pub record Within (verb : Verb) (s : State) (o : Outcome) : Type 0 where
  pub lines : Reshaped verb s.lines o.state.lines
  pub past : o.state.past ≡ s.past
  pub global : o.state.global ≡ s.global
  pub alters : o.alters ≡ true → may_alter verb ≡ true

-- one that puts the lines of a file in place of all, and forgets undo
pub record Loads (verb : Verb) (o : Outcome) : Type 0 where
  pub unlisted : may_be_listed verb ≡ false
  pub bytes : List ℕ
  pub lines : o.state.lines ≡ map plain_line (lines_of bytes)
  pub past : o.state.past ≡ Nothing
  pub global : o.state.global ≡ None

-- one that brings back what undo keeps, which then keeps what was there
pub record BringsBack (verb : Verb) (s : State) (o : Outcome) : Type 0 where
  pub unlisted : may_be_listed verb ≡ false
  pub before : Kept
  pub was : s.past ≡ Was before
  pub lines : o.state.lines ≡ before.lines
  pub past : o.state.past ≡ Was (kept s)
  pub global : o.state.global ≡ s.global

pub data Shape (verb : Verb) (s : State) (o : Outcome) : Type 0 where
  within : Within verb s o → Shape verb s o
  loads : Loads verb o → Shape verb s o
  brings_back : BringsBack verb s o → Shape verb s o

-- a file that is asked for: one to be written is written by the path that `w` uses
abbrev pub IsAsked : Verb → State → Request → Type 0
IsAsked verb s (request.Read path) = Unit {0}
IsAsked verb s (request.Write path bytes) = (own : Option (List ℕ)) × (verb ≡ ed.WriteFile own) × (used_path own s ≡ Ok path)

-- such an outcome, or such a request
abbrev pub IsShaped : Verb → State → Effect → Type 0
IsShaped verb s (Makes o) = Shape verb s o
IsShaped verb s (Asks r) = IsAsked verb s r

module _ (verb : Verb) (s : State) where
  abbrev HasShape : Effect → Type 0
  HasShape e = IsShaped verb s e

  -- no change is a change of any command
  unaltered : false ≡ true → may_alter verb ≡ true
  unaltered same = absurd (false≢true same)

  -- lines entered after a line
  entered-within : (a : ℕ) (text : List (List ℕ)) → may_alter verb ≡ true → (enters_lines verb ≡ true → AreWhole s.lines → AreLines text) →
      Within verb s (entered a text s)
  entered-within a [] may lines = record { lines = shape.stay; past = refl; global = refl; alters = unaltered }
  entered-within a (line ∷ more) may lines =
      record { lines = shape.exchange a a (line ∷ more) (omega arith) lines; past = refl; global = refl; alters = λ alters. may }

  insert-within : (text : List (List ℕ)) (x : Span) → may_alter verb ≡ true →
      (enters_lines verb ≡ true → AreWhole s.lines → AreLines text) → Within verb s (effect.insert text x s)
  insert-within [] x may lines = record { lines = shape.stay; past = refl; global = refl; alters = unaltered }
  insert-within (line ∷ more) x may lines = entered-within (x.first - 1) (line ∷ more) may lines

  delete-within : (x : Span) → InOrder x → may_alter verb ≡ true → Within verb s (effect.delete x s)
  delete-within x order may = record {
    lines = shape.exchange (x.first - 1) x.last [] (omega (arith, order)) (λ enters all. All-nil IsLine);
    past = refl;
    global = refl;
    alters = λ alters. may;
  }

  change-within : (text : List (List ℕ)) (x : Span) → InOrder x → may_alter verb ≡ true →
      (enters_lines verb ≡ true → AreWhole s.lines → AreLines text) → Within verb s (effect.change text x s)
  change-within [] x order may lines = delete-within x order may
  change-within (line ∷ more) x order may lines = record {
    lines = shape.exchange (x.first - 1) x.last (line ∷ more) (omega (arith, order)) lines;
    past = refl;
    global = refl;
    alters = λ alters. may;
  }

  -- the lines of a span are lines, and so is one of all their bytes
  between-lines : (x : Span) → AreWhole s.lines → AreLines (texts (between x.first x.last s.lines))
  between-lines x all = whole-texts (between x.first x.last s.lines) (whole-block (x.first - 1) x.last s.lines all)

  join-within : (x : Span) → InOrder x → may_alter verb ≡ true → Within verb s (effect.join x s)
  join-within x order may =
      let line : List ℕ = concat (texts (between x.first x.last s.lines)) in
      either (Within verb s) (nat_lt x.first x.last) _ _
      (λ several. record {
        lines = shape.exchange (x.first - 1) x.last (line ∷ []) (omega (arith, order)) (λ enters all.
            All-cons IsLine line [] (line-concat (texts (between x.first x.last s.lines)) (between-lines x all)) (All-nil IsLine));
        past = refl;
        global = refl;
        alters = λ alters. may;
      })
      (λ one. record { lines = shape.stay; past = refl; global = refl; alters = unaltered })

  move-shape : (x : Span) (target : ℕ) → InOrder x → may_alter verb ≡ true → IfOk (making (effect.move x target s)) HasShape
  move-shape x target order may =
      either (λ (r : Result Outcome Fault). IfOk (making r) HasShape) (nat_le x.first target && nat_le target x.last) _ _
      (λ inside. tt)
      (λ outside. Shape.within (record {
        lines = shape.carry (x.first - 1) x.last (effect.place_left x target) (omega (arith, order));
        past = refl;
        global = refl;
        alters = λ alters. may;
      }))

  -- what is made of results, where a pattern and a replacement are remembered
  made-shape : (listed : Bool) (form : Option Form) (x : Span) (text : List ℕ) (parts : List Part) (results : Results) →
      may_alter verb ≡ true → Reshaped verb s.lines (replaced x.first x.last results.0 s.lines) →
      IfOk (substitution.made listed form x (record s { pattern = Some text; replacement = Some parts }) results) (Shape verb s)
  made-shape true form x text parts (lines, None) may reshaped =
      Shape.within (record { lines = shape.stay; past = refl; global = refl; alters = unaltered })
  made-shape false form x text parts (lines, None) may reshaped = tt
  made-shape listed form x text parts (lines, Some n) may reshaped =
      Shape.within (record { lines = reshaped; past = refl; global = refl; alters = λ alters. may })

  substitute-shape : (listed : Bool) (pattern : Option (List ℕ)) (replacement : Option (List Part)) (which : Which) (form : Option Form)
      (x : Span) → InOrder x → may_alter verb ≡ true →
      IfOk (substitution.substitute listed pattern replacement which form x s) (Shape verb s)
  substitute-shape listed pattern replacement which form x order may =
      IfOk-after (Shape verb s) (used_replacement listed replacement s) _ (λ parts.
      IfOk-after (Shape verb s) (used_pattern pattern s) _ (λ text.
      made-shape listed form x text parts (each (made_of text parts which) (between x.first x.last s.lines)) may
      (shape.substitute (x.first - 1) x.last text parts which (omega (arith, order)))))

  making-shape : (r : Result Outcome Fault) → IfOk r (Shape verb s) → IfOk (making r) HasShape
  making-shape r h = IfOk-bind (Shape verb s) HasShape r _ h (λ o is. is)

  -- what is made of a file's bytes
  with_bytes-shape : (path : List ℕ) (given : Option Answer) (make : List ℕ → Outcome) → ((bytes : List ℕ) → Shape verb s (make bytes)) →
      IfOk (with_bytes path given make) HasShape
  with_bytes-shape path None make is = tt
  with_bytes-shape path (Some a) make is = IfOk-after HasShape (bytes_read a) _ is

  read-shape : (path : Option (List ℕ)) (given : Option Answer) (x : Span) → may_alter verb ≡ true →
      IfOk (file.read path given x s) HasShape
  read-shape path given x may =
      IfOk-after HasShape (used_path path s) _ (λ used.
      with_bytes-shape used given _ (λ bytes. Shape.within (read-within used x (lines_of bytes) (lines_of-lines bytes))))
    where
      read-within : (used : List ℕ) (x : Span) (text : List (List ℕ)) → AreLines text →
          Within verb s (entered x.first text (named_first used s))
      read-within used x [] lines = record { lines = shape.stay; past = refl; global = refl; alters = unaltered }
      read-within used x (line ∷ more) lines = record {
        lines = shape.exchange x.first x.first (line ∷ more) (omega arith) (λ enters all. lines);
        past = refl;
        global = refl;
        alters = λ alters. may;
      }

  written-shape : (path : List ℕ) (a : Answer) (x : Span) → IfOk (written_to path a x s) HasShape
  written-shape path answer.Done x = Shape.within (record { lines = shape.stay; past = refl; global = refl; alters = unaltered })
  written-shape path (answer.Bytes bytes) x = tt
  written-shape path answer.Missing x = tt
  written-shape path answer.Refused x = tt

  write-shape : (own : Option (List ℕ)) (given : Option Answer) (x : Span) → verb ≡ ed.WriteFile own →
      IfOk (file.write own given x s) HasShape
  write-shape own given x is =
      IfOk-bind (λ (used : List ℕ). used_path own s ≡ Ok used) HasShape (used_path own s) _ (IfOk-itself (used_path own s)) (by given)
    where
      by : (given : Option Answer) (used : List ℕ) → used_path own s ≡ Ok used → IfOk (with_lines used given x s) HasShape
      by None used found = (own, is, found)
      by (Some a) used found = written-shape used a x

  edit_anyway-shape : (path : Option (List ℕ)) (given : Option Answer) → may_be_listed verb ≡ false →
      IfOk (file.edit_anyway path given s) HasShape
  edit_anyway-shape path given unlisted =
      IfOk-after HasShape (used_path path s) _ (λ used.
      with_bytes-shape used given _ (λ bytes.
      Shape.loads (record { unlisted = unlisted; bytes = bytes; lines = refl; past = refl; global = refl })))

  -- a buffer that is saved is as it was
  saved-same : IfOk (saved s) (λ t. t ≡ s)
  saved-same = either (λ (r : Result State Fault). IfOk r (λ (t : State). t ≡ s)) s.changed _ _ (λ changed. tt) (λ unchanged. refl)

  edit-shape : (path : Option (List ℕ)) (given : Option Answer) → may_be_listed verb ≡ false → IfOk (file.edit path given s) HasShape
  edit-shape path given unlisted =
      IfOk-after HasShape (used_path path s) _ (λ used.
      IfOk-bind (λ (t : State). t ≡ s) HasShape (saved s) _ saved-same (λ t is.
      subst (λ (t : State). IfOk (file.edit_anyway (Some used) given t) HasShape) (sym is) (edit_anyway-shape (Some used) given unlisted)))

  file_name-shape : (path : Option (List ℕ)) → IfOk (file.file_name path s) (Shape verb s)
  file_name-shape path =
      IfOk-after (Shape verb s) (used_path path s) _ (λ used.
      Shape.within (record { lines = shape.stay; past = refl; global = refl; alters = unaltered }))

  quit-shape : IfOk (file.quit s) (Shape verb s)
  quit-shape =
      IfOk-bind (λ (t : State). t ≡ s) (Shape verb s) (saved s) _ saved-same (λ t is.
      subst (λ (t : State). Shape verb s (only t [])) (sym is)
      (Shape.within (record { lines = shape.stay; past = refl; global = refl; alters = unaltered })))

  -- a command with a pattern of its own uses that
  own-used : (own : Option (List ℕ)) → IfOk (used_pattern own s) (shape.Uses own)
  own-used (Some text) = refl
  own-used None = always (used_pattern None s)
    where
      always : (r : Result (List ℕ) Fault) → IfOk r (λ _. Unit {0})
      always (Ok text) = tt
      always (Err f) = tt

  global-shape : (which : Sense) (own : Option (List ℕ)) (x : Span) → InOrder x → verb ≡ ed.Global which own →
      IfOk (flagged which own x s >> λ t. Ok (Makes (only t []))) HasShape
  global-shape which own x order is =
      IfOk-bind (λ (t : State). Shape verb s (only t [])) HasShape (flagged which own x s) _
      (IfOk-bind (shape.Uses own) (λ (t : State). Shape verb s (only t [])) (used_pattern own s) _ (own-used own) (λ text uses.
      Shape.within (record {
        lines = shape.flag (x.first - 1) x.last which own text (omega (arith, order)) is uses;
        past = refl;
        global = refl;
        alters = unaltered;
      })))
      (λ t is. is)

  undo-shape : (past : Past) → s.past ≡ past → may_be_listed verb ≡ false → IfOk (effect.undo past s) (Shape verb s)
  undo-shape Nothing was unlisted = tt
  undo-shape Same was unlisted = Shape.within (record { lines = shape.stay; past = refl; global = refl; alters = unaltered })
  undo-shape (Was before) was unlisted =
      Shape.brings_back (record { unlisted = unlisted; before = before; was = was; lines = refl; past = refl; global = refl })

-- each command's effect has one of these shapes
pub effect-shapes : (verb : Verb) (listed : Bool) (x : Span) (target : ℕ) (s : State) (given : Option Answer) → InOrder x →
    IfOk (effect_of verb listed x target s given) (IsShaped verb s)
effect-shapes (ed.Append text) listed x target s given order =
    Shape.within (entered-within (ed.Append text) s x.first text refl (λ enters all. lines-are text enters))
effect-shapes (ed.Change text) listed x target s given order =
    Shape.within (change-within (ed.Change text) s text x order refl (λ enters all. lines-are text enters))
effect-shapes ed.Delete listed x target s given order = Shape.within (delete-within ed.Delete s x order refl)
effect-shapes (ed.Insert text) listed x target s given order =
    Shape.within (insert-within (ed.Insert text) s text x refl (λ enters all. lines-are text enters))
effect-shapes ed.Join listed x target s given order = Shape.within (join-within ed.Join s x order refl)
effect-shapes (ed.Mark letter) listed x target s given order =
    Shape.within (record { lines = shape.mark (x.last - 1) letter; past = refl; global = refl; alters = unaltered (ed.Mark letter) s })
effect-shapes (ed.Move to) listed x target s given order = move-shape (ed.Move to) s x target order refl
effect-shapes (ed.Copy to) listed x target s given order =
    let block : List (List ℕ) = texts (between x.first x.last s.lines) in
    Shape.within (entered-within (ed.Copy to) s target block refl (λ enters all. between-lines (ed.Copy to) s x all))
effect-shapes (ed.Substitute pattern replacement which form) listed x target s given order =
    let verb : Verb = ed.Substitute pattern replacement which form in
    making-shape verb s _ (substitute-shape verb s listed pattern replacement which form x order refl)
effect-shapes (ed.ReadFile path) listed x target s given order = read-shape (ed.ReadFile path) s path given x refl
effect-shapes (ed.WriteFile path) listed x target s given order = write-shape (ed.WriteFile path) s path given x refl
effect-shapes (ed.Edit path) listed x target s given order = edit-shape (ed.Edit path) s path given refl
effect-shapes (ed.EditAnyway path) listed x target s given order = edit_anyway-shape (ed.EditAnyway path) s path given refl
effect-shapes (ed.FileName path) listed x target s given order =
    making-shape (ed.FileName path) s (file.file_name path s) (file_name-shape (ed.FileName path) s path)
effect-shapes (ed.Global which pattern) listed x target s given order = global-shape (ed.Global which pattern) s which pattern x order refl
effect-shapes ed.Undo listed x target s given order = making-shape ed.Undo s (effect.undo s.past s) (undo-shape ed.Undo s s.past refl refl)
effect-shapes ed.Quit listed x target s given order = making-shape ed.Quit s (file.quit s) (quit-shape ed.Quit s)
effect-shapes verb listed x target s given order =
    Shape.within (record { lines = shape.stay; past = refl; global = refl; alters = unaltered verb s })
