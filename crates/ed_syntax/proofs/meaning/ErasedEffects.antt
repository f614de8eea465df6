-- What a command does without a letter that it doesn't name.
use Rattle.std.proofs.Common.{◌≡◌, ◌≢◌, ℕ, zero, suc, ◌+◌, ◌-◌, min, Bool, true, false, not, ◌&&◌, List, [], ◌∷◌, ◌++◌, map, length, Option, Some, None, option_map, Result, Ok, Err, refl, sym, ap, ◌∙◌}
use Rattle.std.specs.Prelude.{nat_lt, nat_le, nat_eq, ok_or, unwrap_or}
use Rattle.std.specs.List.{concat}
use Rattle.std.proofs.lemmas.List.{map-append}
use Rattle.std.proofs.lemmas.Bool.{eqb-false}
use Rattle.ed_base.specs.Buffer.{Line, plain_line, texts, with_flag}
use Rattle.ed_base.specs.Lines.{lines_of, bytes_of}
use Rattle.ed_base.specs.Parts.{between, replaced, inserted}
use Rattle.ed_base.specs.declared.fault.Fault.{Fault}
use Rattle.ed_base.specs.declared.fault.Fault.TheVariants as fault
use Rattle.ed_syntax.specs.declared.command.Sense.{Sense}
use Rattle.ed_syntax.specs.declared.replacement.Part.{Part}
use Rattle.ed_syntax.specs.declared.replacement.Which.{Which}
use Rattle.ed_syntax.specs.declared.request.Answer.{Answer}
use Rattle.ed_syntax.specs.declared.request.Answer.TheVariants as answer
use Rattle.ed_syntax.specs.declared.request.Request.TheVariants as request
use Rattle.ed_syntax.specs.Commands as ed
use Rattle.ed_syntax.specs.Commands.{Form, Verb, Command}
use Rattle.ed_syntax.specs.meaning.States.{State, Kept, Past, Nothing, Same, Was, Open, kept, noted}
use Rattle.ed_syntax.specs.meaning.Values.{◌>>◌, used_pattern}
use Rattle.ed_syntax.specs.meaning.Ranges.{Span}
use Rattle.ed_syntax.specs.meaning.Forms.{written, all_written, lines_written}
use Rattle.ed_syntax.specs.meaning.Effects as effect
use Rattle.ed_syntax.specs.meaning.Effects.{Outcome, Effect, Makes, Asks, altered, only, at_line, entered, place_left}
use Rattle.ed_syntax.specs.meaning.SubstitutedLines.{Results, made_of, onto, each, used_replacement, flag_written, made, substitute}
use Rattle.ed_syntax.specs.meaning.Files as file
use Rattle.ed_syntax.specs.meaning.Files.{used_path, named_first, bytes_read, with_bytes, is_whole, written_to, with_lines, loaded, saved}
use Rattle.ed_syntax.specs.meaning.Globals.{flagged_line, flagged}
use Rattle.ed_syntax.specs.meaning.Applied.{Placed, placed, making, effect_of, suffix_written, past_after, changed_from, settled, completed, command}
use Rattle.ed_syntax.specs.meaning.Erasure.{marks_with, command_names, lines_without, kept_without, past_without, open_without, outcome_without, effect_without}
use Rattle.ed_syntax.specs.meaning.ErasureLaws.{CommandsLeaveLetters}
use Rattle.ed_syntax.proofs.meaning.ErasureLemmas.{mapped, then-mapped, mapped-mapped, chosen-mapped, map-comm, bare, plain-without, length-without, texts-without, block-without, exchanged-without, plain-exchanged-without, marked_at-without}
use Rattle.ed_syntax.proofs.meaning.ErasedPlaces.{cut, sought-same, cut_placed, named-parts, placed-same}

-- one line is written as it is without a letter
written-same : (x : ℕ) (form : Form) (n : ℕ) (line : Line) → written form n (bare x line) ≡ written form n line
written-same x ed.Plain n line = refl
written-same x ed.Numbered n line = refl
written-same x ed.Unambiguous n line = refl

all_written-same : (x : ℕ) (form : Form) (n : ℕ) (lines : List Line) → all_written form n (lines_without x lines) ≡ all_written form n lines
all_written-same x form n [] = refl
all_written-same x form n (line ∷ lines) =
    ap (λ l. l ++ all_written form (n + 1) (lines_without x lines)) (written-same x form n line)
    ∙ ap (λ l. written form n line ++ l) (all_written-same x form (n + 1) lines)

module _ (x : ℕ) where
  lines_written-same : (form : Form) (a b : ℕ) (lines : List Line) → lines_written form a b (lines_without x lines) ≡ lines_written form a b lines
  lines_written-same form a b lines =
      ap (λ l. all_written form a l) (block-without x (a - 1) b lines) ∙ all_written-same x form a (between a b lines)

  -- an outcome and an effect without the letter
  abbrev bare_outcome : Outcome → Outcome
  bare_outcome o = outcome_without x o

  abbrev bare_effect : Effect → Effect
  bare_effect e = effect_without x e

  -- other lines
  altered-same : (lines others : List Line) (n : ℕ) (s : State) → others ≡ lines_without x lines → altered others n (cut x s) ≡ bare_outcome (altered lines n s)
  altered-same lines others n s same = ap (λ ls. altered ls n (cut x s)) same

  entered-same : (a : ℕ) (text : List (List ℕ)) (s : State) → entered a text (cut x s) ≡ bare_outcome (entered a text s)
  entered-same a [] s = refl
  entered-same a (t ∷ ts) s =
      altered-same (inserted a (map plain_line (t ∷ ts)) s.lines) (inserted a (map plain_line (t ∷ ts)) (lines_without x s.lines)) (a + length (t ∷ ts)) s
      (plain-exchanged-without x a a (t ∷ ts) s.lines)

  insert-same : (text : List (List ℕ)) (p : Span) (s : State) → effect.insert text p (cut x s) ≡ bare_outcome (effect.insert text p s)
  insert-same [] p s = ap (λ n. only (at_line (min p.first n) (cut x s)) []) (length-without x s.lines)
  insert-same (t ∷ ts) p s = entered-same (p.first - 1) (t ∷ ts) s

  delete-same : (p : Span) (s : State) → effect.delete p (cut x s) ≡ bare_outcome (effect.delete p s)
  delete-same p s =
      let left = replaced p.first p.last [] s.lines in
      ap (λ ls. altered ls (min p.first (length ls)) (cut x s)) (plain-exchanged-without x (p.first - 1) p.last [] s.lines)
      ∙ ap (λ n. altered (lines_without x left) (min p.first n) (cut x s)) (length-without x left)

  change-same : (text : List (List ℕ)) (p : Span) (s : State) → effect.change text p (cut x s) ≡ bare_outcome (effect.change text p s)
  change-same [] p s = delete-same p s
  change-same (t ∷ ts) p s =
      altered-same (replaced p.first p.last (map plain_line (t ∷ ts)) s.lines) (replaced p.first p.last (map plain_line (t ∷ ts)) (lines_without x s.lines))
      (p.first - 1 + length (t ∷ ts)) s (plain-exchanged-without x (p.first - 1) p.last (t ∷ ts) s.lines)

  -- the texts of the lines of a span
  between-texts : (p : Span) (lines : List Line) → texts (between p.first p.last (lines_without x lines)) ≡ texts (between p.first p.last lines)
  between-texts p lines =
      ap (λ (ls : List Line). texts ls) (block-without x (p.first - 1) p.last lines) ∙ texts-without x (between p.first p.last lines)

  join-same : (p : Span) (s : State) → effect.join p (cut x s) ≡ bare_outcome (effect.join p s)
  join-same p s =
      chosen-mapped bare_outcome (nat_lt p.first p.last) _ _ _ _
      (ap (λ t. altered (replaced p.first p.last (plain_line (concat t) ∷ []) (lines_without x s.lines)) p.first (cut x s)) (between-texts p s.lines)
      ∙ ap (λ ls. altered ls p.first (cut x s)) (plain-exchanged-without x (p.first - 1) p.last (concat (texts (between p.first p.last s.lines)) ∷ []) s.lines))
      refl

  move-same : (p : Span) (target : ℕ) (s : State) → effect.move p target (cut x s) ≡ mapped bare_outcome (effect.move p target s)
  move-same p target s =
      let lines = lines_without x s.lines in
      let moved = between p.first p.last s.lines in
      let left = replaced p.first p.last [] s.lines in
      let place = place_left p target in
      chosen-mapped (λ r. mapped bare_outcome r) (nat_le p.first target && nat_le target p.last) _ _ _ _
      refl
      (ap (λ m. Ok (altered (inserted place m (replaced p.first p.last [] lines)) (place + length m) (cut x s))) (block-without x (p.first - 1) p.last s.lines)
      ∙ ap (λ n. Ok (altered (inserted place (lines_without x moved) (replaced p.first p.last [] lines)) (place + n) (cut x s))) (length-without x moved)
      ∙ ap (λ ls. Ok (altered (inserted place (lines_without x moved) ls) (place + length moved) (cut x s)))
      (plain-exchanged-without x (p.first - 1) p.last [] s.lines)
      ∙ ap (λ ls. Ok (altered ls (place + length moved) (cut x s))) (exchanged-without x place place moved left))

  copy-same : (p : Span) (target : ℕ) (s : State) → effect.copy p target (cut x s) ≡ bare_outcome (effect.copy p target s)
  copy-same p target s =
      ap (λ t. entered target t (cut x s)) (between-texts p s.lines) ∙ entered-same target (texts (between p.first p.last s.lines)) s

  mark-same : (own : ℕ) (p : Span) (s : State) → own ≢ x → effect.mark own p (cut x s) ≡ bare_outcome (effect.mark own p s)
  mark-same own p s other = ap (λ (ls : List Line). only (record (cut x s) { lines = ls }) []) (marked_at-without x own other (p.last - 1) s.lines)

  write-same : (form : Form) (p : Span) (s : State) → effect.write form p (cut x s) ≡ bare_outcome (effect.write form p s)
  write-same form p s = ap (λ out. only (at_line p.last (cut x s)) out) (lines_written-same form p.first p.last s.lines)

  -- what undo keeps
  pub kept-same : (s : State) → kept (cut x s) ≡ kept_without x (kept s)
  kept-same s =
      ap (λ (ls : List Line). record { lines = ls; current = s.current }) (map-comm (with_flag false) (bare x) (λ line. refl) s.lines)

  undo-same : (past : Past) (s : State) → effect.undo (past_without x past) (cut x s) ≡ mapped bare_outcome (effect.undo past s)
  undo-same Nothing s = refl
  undo-same Same s = refl
  undo-same (Was before) s =
      ap (λ (k : Kept). Ok (only (record (cut x s) {
        lines = lines_without x before.lines;
        current = before.current;
        changed = true;
        past = Was k;
      }) [])) (kept-same s)

  -- SUBSTITUTION

  -- results without the letter
  abbrev bare_results : Results → Results
  bare_results r = (lines_without x r.0, r.1)

  onto-same : (line : Line) (texts : Option (List (List ℕ))) (later : Results) → onto (bare x line) texts (bare_results later) ≡ bare_results (onto line texts later)
  onto-same line None later = refl
  onto-same line (Some texts) later =
      let count : Option ℕ = Some (length texts + unwrap_or later.1 0) in
      ap (λ (ls : List Line). (ls ++ lines_without x later.0, count)) (sym (plain-without x texts))
      ∙ ap (λ (ls : List Line). (ls, count)) (sym (map-append (bare x) (map plain_line texts) later.0))

  each-same : (f : List ℕ → Option (List (List ℕ))) (lines : List Line) → each f (lines_without x lines) ≡ bare_results (each f lines)
  each-same f [] = refl
  each-same f (line ∷ lines) = ap (λ (r : Results). onto (bare x line) (f line.bytes) r) (each-same f lines) ∙ onto-same line (f line.bytes) (each f lines)

  flag_written-same : (form : Option Form) (n : ℕ) (lines : List Line) → flag_written form n (lines_without x lines) ≡ flag_written form n lines
  flag_written-same None n lines = refl
  flag_written-same (Some form) n lines = lines_written-same form n n lines

  made-same : (listed : Bool) (form : Option Form) (p : Span) (s : State) (r : Results) →
      made listed form p (cut x s) (bare_results r) ≡ mapped bare_outcome (made listed form p s r)
  made-same listed form p s (lines, None) = chosen-mapped (λ r. mapped bare_outcome r) listed _ _ _ _ refl refl
  made-same listed form p s (lines, Some n) =
      let all = replaced p.first p.last lines s.lines in
      let current = p.first - 1 + n in
      ap (λ ls. Ok (record (altered ls current (cut x s)) { output = flag_written form current ls })) (exchanged-without x (p.first - 1) p.last lines s.lines)
      ∙ ap (λ out. Ok (record (altered (lines_without x all) current (cut x s)) { output = out })) (flag_written-same form current all)

  used_replacement-same : (listed : Bool) (own : Option (List Part)) (s : State) → used_replacement listed own (cut x s) ≡ used_replacement listed own s
  used_replacement-same listed None s = refl
  used_replacement-same listed (Some parts) s = refl

  used_pattern-same : (own : Option (List ℕ)) (s : State) → used_pattern own (cut x s) ≡ used_pattern own s
  used_pattern-same own s = ap (λ (p : Option (List ℕ)). ok_or p fault.Pattern) (sought-same x own s)

  substitute-same : (listed : Bool) (own : Option (List ℕ)) (replacement : Option (List Part)) (which : Which) (form : Option Form) (p : Span) (s : State) →
      substitute listed own replacement which form p (cut x s) ≡ mapped bare_outcome (substitute listed own replacement which form p s)
  substitute-same listed own replacement which form p s =
      let bare_made : List Part → List ℕ → Result Outcome Fault = λ parts text.
      made listed form p (record (cut x s) { pattern = Some text; replacement = Some parts }) (each (made_of text parts which) (between p.first p.last (lines_without x s.lines))) in
      ap (λ (r : Result (List Part) Fault). r >> λ parts. used_pattern own (cut x s) >> bare_made parts) (used_replacement-same listed replacement s)
      ∙ then-mapped bare_outcome (used_replacement listed replacement s) _ _ (λ parts.
      ap (λ (r : Result (List ℕ) Fault). r >> bare_made parts) (used_pattern-same own s)
      ∙ then-mapped bare_outcome (used_pattern own s) _ _ (λ text.
      ap (λ (r : Results). made listed form p (record (cut x s) { pattern = Some text; replacement = Some parts }) r)
      (ap (each (made_of text parts which)) (block-without x (p.first - 1) p.last s.lines) ∙ each-same (made_of text parts which) (between p.first p.last s.lines))
      ∙ made-same listed form p (record s { pattern = Some text; replacement = Some parts }) (each (made_of text parts which) (between p.first p.last s.lines))))

  -- FILES

  used_path-same : (path : Option (List ℕ)) (s : State) → used_path path (cut x s) ≡ used_path path s
  used_path-same (Some path) s = refl
  used_path-same None s = refl

  saved-same : (s : State) → saved (cut x s) ≡ mapped (cut x) (saved s)
  saved-same s = chosen-mapped (λ r. mapped (cut x) r) s.changed _ _ _ _ refl refl

  -- a path that is used, and then whatever comes of it
  after-path : {C D : Type 0} (g : C → D) (path : Option (List ℕ)) (s : State) (k : List ℕ → Result C Fault) (l : List ℕ → Result D Fault) →
      ((used : List ℕ) → l used ≡ mapped g (k used)) → (used_path path (cut x s) >> l) ≡ mapped g (used_path path s >> k)
  after-path g path s k l same = ap (λ (r : Result (List ℕ) Fault). r >> l) (used_path-same path s) ∙ then-mapped g (used_path path s) k l same

  with_bytes-same : (path : List ℕ) (given : Option Answer) (make bare_make : List ℕ → Outcome) → ((bytes : List ℕ) → bare_make bytes ≡ bare_outcome (make bytes)) →
      with_bytes path given bare_make ≡ mapped bare_effect (with_bytes path given make)
  with_bytes-same path None make bare_make same = refl
  with_bytes-same path (Some a) make bare_make same =
      then-mapped bare_effect (bytes_read a) _ _ (λ bytes. ap (λ (o : Outcome). Ok (Makes o)) (same bytes))

  read-same : (path : Option (List ℕ)) (given : Option Answer) (p : Span) (s : State) → file.read path given p (cut x s) ≡ mapped bare_effect (file.read path given p s)
  read-same path given p s =
      after-path bare_effect path s _ _ (λ used.
      with_bytes-same used given _ _ (λ bytes. entered-same p.first (lines_of bytes) (named_first used s)))

  written_to-same : (path : List ℕ) (a : Answer) (p : Span) (s : State) → written_to path a p (cut x s) ≡ mapped bare_effect (written_to path a p s)
  written_to-same path answer.Done p s =
      ap (λ n. Ok (Makes (only (record (named_first path (cut x s)) { changed = s.changed && not (nat_eq p.first 1 && nat_eq p.last n) }) []))) (length-without x s.lines)
  written_to-same path (answer.Bytes bytes) p s = refl
  written_to-same path answer.Missing p s = refl
  written_to-same path answer.Refused p s = refl

  with_lines-same : (path : List ℕ) (given : Option Answer) (p : Span) (s : State) → with_lines path given p (cut x s) ≡ mapped bare_effect (with_lines path given p s)
  with_lines-same path None p s = ap (λ t. Ok (Asks (request.Write path (bytes_of t)))) (between-texts p s.lines)
  with_lines-same path (Some a) p s = written_to-same path a p s

  write_file-same : (path : Option (List ℕ)) (given : Option Answer) (p : Span) (s : State) → file.write path given p (cut x s) ≡ mapped bare_effect (file.write path given p s)
  write_file-same path given p s = after-path bare_effect path s _ _ (λ used. with_lines-same used given p s)

  loaded-same : (bytes path : List ℕ) (s : State) → loaded bytes path (cut x s) ≡ cut x (loaded bytes path s)
  loaded-same bytes path s =
      ap (λ (ls : List Line). record (loaded bytes path s) { lines = ls }) (sym (plain-without x (lines_of bytes)))

  edit_anyway-same : (path : Option (List ℕ)) (given : Option Answer) (s : State) → file.edit_anyway path given (cut x s) ≡ mapped bare_effect (file.edit_anyway path given s)
  edit_anyway-same path given s =
      after-path bare_effect path s _ _ (λ used.
      with_bytes-same used given _ _ (λ bytes. ap (λ (t : State). only t []) (loaded-same bytes used s)))

  edit-same : (path : Option (List ℕ)) (given : Option Answer) (s : State) → file.edit path given (cut x s) ≡ mapped bare_effect (file.edit path given s)
  edit-same path given s =
      after-path bare_effect path s _ _ (λ used.
      ap (λ (r : Result State Fault). r >> file.edit_anyway (Some used) given) (saved-same s)
      ∙ mapped-mapped (cut x) bare_effect (saved s) _ _ (λ t. edit_anyway-same (Some used) given t))

  file_name-same : (path : Option (List ℕ)) (s : State) → file.file_name path (cut x s) ≡ mapped bare_outcome (file.file_name path s)
  file_name-same path s = after-path bare_outcome path s _ _ (λ used. refl)

  quit-same : (s : State) → file.quit (cut x s) ≡ mapped bare_outcome (file.quit s)
  quit-same s = ap (λ (r : Result State Fault). r >> λ t. Ok (only t [])) (saved-same s) ∙ mapped-mapped (cut x) bare_outcome (saved s) _ _ (λ t. refl)

  -- GLOBALS

  flagged-same : (which : Sense) (own : Option (List ℕ)) (p : Span) (s : State) → flagged which own p (cut x s) ≡ mapped (cut x) (flagged which own p s)
  flagged-same which own p s =
      ap (λ (r : Result (List ℕ) Fault). r >> λ text.
      let lines = replaced p.first p.last (map (flagged_line which text) (between p.first p.last (lines_without x s.lines))) (lines_without x s.lines) in
      Ok (record (cut x s) { lines = lines; pattern = Some text })) (used_pattern-same own s)
      ∙ then-mapped (cut x) (used_pattern own s) _ _ (λ text.
      let taken = between p.first p.last s.lines in
      ap (λ ls. Ok (record (cut x s) { lines = replaced p.first p.last (map (flagged_line which text) ls) (lines_without x s.lines); pattern = Some text }))
      (block-without x (p.first - 1) p.last s.lines)
      ∙ ap (λ ls. Ok (record (cut x s) { lines = replaced p.first p.last ls (lines_without x s.lines); pattern = Some text }))
      (map-comm (flagged_line which text) (bare x) (λ line. refl) taken)
      ∙ ap (λ ls. Ok (record (cut x s) { lines = ls; pattern = Some text }))
      (exchanged-without x (p.first - 1) p.last (map (flagged_line which text) taken) s.lines))

  -- ANY COMMAND

  made-of : (o bare_o : Outcome) → bare_o ≡ bare_outcome o → (Ok (Makes bare_o)) ≡ mapped bare_effect (Ok (Makes o))
  made-of o bare_o same = ap (λ (o : Outcome). Ok (Makes o)) same

  making-same : (r bare_r : Result Outcome Fault) → bare_r ≡ mapped bare_outcome r → making bare_r ≡ mapped bare_effect (making r)
  making-same r bare_r same = ap (λ (r : Result Outcome Fault). making r) same ∙ mapped-mapped bare_outcome bare_effect r _ _ (λ o. refl)

  effect_of-same : (verb : Verb) (listed : Bool) (p : Span) (target : ℕ) (s : State) (given : Option Answer) → marks_with x verb ≡ false →
      effect_of verb listed p target (cut x s) given ≡ mapped bare_effect (effect_of verb listed p target s given)
  effect_of-same (ed.Append text) listed p target s given free = made-of _ _ (entered-same p.first text s)
  effect_of-same (ed.Change text) listed p target s given free = made-of _ _ (change-same text p s)
  effect_of-same ed.Delete listed p target s given free = made-of _ _ (delete-same p s)
  effect_of-same (ed.Insert text) listed p target s given free = made-of _ _ (insert-same text p s)
  effect_of-same ed.Join listed p target s given free = made-of _ _ (join-same p s)
  effect_of-same (ed.Mark own) listed p target s given free = made-of _ _ (mark-same own p s (eqb-false own x free))
  effect_of-same (ed.Move to) listed p target s given free = making-same _ _ (move-same p target s)
  effect_of-same (ed.Copy to) listed p target s given free = made-of _ _ (copy-same p target s)
  effect_of-same (ed.Substitute pattern replacement which form) listed p target s given free =
      making-same _ _ (substitute-same listed pattern replacement which form p s)
  effect_of-same ed.LineNumber listed p target s given free = refl
  effect_of-same ed.Null listed p target s given free = made-of _ _ (write-same ed.Plain p s)
  effect_of-same (ed.Write form) listed p target s given free = made-of _ _ (write-same form p s)
  effect_of-same (ed.ReadFile path) listed p target s given free = read-same path given p s
  effect_of-same (ed.WriteFile path) listed p target s given free = write_file-same path given p s
  effect_of-same (ed.Edit path) listed p target s given free = edit-same path given s
  effect_of-same (ed.EditAnyway path) listed p target s given free = edit_anyway-same path given s
  effect_of-same (ed.FileName path) listed p target s given free = making-same _ _ (file_name-same path s)
  effect_of-same (ed.Global which own) listed p target s given free =
      ap (λ (r : Result State Fault). r >> λ t. Ok (Makes (only t []))) (flagged-same which own p s)
      ∙ mapped-mapped (cut x) bare_effect (flagged which own p s) _ _ (λ t. refl)
  effect_of-same ed.Undo listed p target s given free = making-same _ _ (undo-same s.past s)
  effect_of-same ed.Quit listed p target s given free = making-same _ _ (quit-same s)
  effect_of-same _ listed p target s given free = refl

  suffix-same : (suffix : Option Form) (s : State) → suffix_written suffix (cut x s) ≡ suffix_written suffix s
  suffix-same None s = refl
  suffix-same (Some form) s =
      ap (λ (out : List ℕ). elim s.current as (λ _. Result (List ℕ) Fault) [ zero ↦ Err fault.Address | suc n ↦ Ok out ])
      (lines_written-same form s.current s.current s.lines)

  noted-same : (g : Option Open) → option_map noted (option_map (open_without x) g) ≡ option_map (open_without x) (option_map noted g)
  noted-same None = refl
  noted-same (Some g) = refl

  past_after-same : (listed : Bool) (before : Kept) (past : Past) → past_after listed (kept_without x before) (past_without x past) ≡ past_without x (past_after listed before past)
  past_after-same true before past = refl
  past_after-same false before past = refl

  changed_from-same : (listed : Bool) (before : Kept) (s : State) → changed_from listed (kept_without x before) (cut x s) ≡ cut x (changed_from listed before s)
  changed_from-same listed before s =
      ap (λ (p : Past). record (cut x s) { changed = true; past = p; global = option_map noted (option_map (open_without x) s.global) })
      (past_after-same listed before s.past)
      ∙ ap (λ (g : Option Open). record (cut x s) { changed = true; past = past_without x (past_after listed before s.past); global = g }) (noted-same s.global)

  settled-same : (listed : Bool) (before : Kept) (o : Outcome) → settled listed (kept_without x before) (bare_outcome o) ≡ cut x (settled listed before o)
  settled-same listed before o = chosen-mapped (cut x) o.alters _ _ _ _ (changed_from-same listed before o.state) refl

  completed-same : (c : Command) (s : State) (e : Effect) → completed c (cut x s) (bare_effect e) ≡ mapped bare_effect (completed c s e)
  completed-same c s (Asks r) = refl
  completed-same c s (Makes o) =
      ap (λ (r : Result (List ℕ) Fault). r >> λ more.
      Ok (Makes (record { state = settled c.listed (kept (cut x s)) (bare_outcome o); output = o.output ++ more; alters = o.alters }))) (suffix-same c.suffix o.state)
      ∙ then-mapped bare_effect (suffix_written c.suffix o.state) _ _ (λ more.
      ap (λ (k : Kept). Ok (Makes (record { state = settled c.listed k (bare_outcome o); output = o.output ++ more; alters = o.alters }))) (kept-same s)
      ∙ ap (λ (t : State). Ok (Makes (record { state = t; output = o.output ++ more; alters = o.alters }))) (settled-same c.listed (kept s) o))

  pub command-same : (s : State) (c : Command) (given : Option Answer) → command_names x c ≡ false → command (cut x s) c given ≡ mapped bare_effect (command s c given)
  command-same s c given free =
      ap (λ (r : Result Placed Fault). r >> λ p. effect_of c.verb c.listed p.span p.target p.state given >> completed c (cut x s)) (placed-same x c s free)
      ∙ mapped-mapped (cut_placed x) bare_effect (placed c s)
      (λ p. effect_of c.verb c.listed p.span p.target p.state given >> completed c s)
      (λ p. effect_of c.verb c.listed p.span p.target p.state given >> completed c (cut x s))
      (λ p.
      ap (λ (r : Result Effect Fault). r >> completed c (cut x s)) (effect_of-same c.verb c.listed p.span p.target p.state given (named-parts x c free).2)
      ∙ mapped-mapped bare_effect bare_effect (effect_of c.verb c.listed p.span p.target p.state given) (completed c s) (completed c (cut x s)) (completed-same c s))

pub commands_leave_letters : CommandsLeaveLetters
commands_leave_letters = command-same
