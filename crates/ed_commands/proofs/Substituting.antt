-- `s` where a line was made: what is remembered, the lines that are left, and what the flag writes.
use Rattle.std.proofs.Common.{◌≡◌, ℕ, ◌+◌, ◌-◌, true, List, [], Option, Some, None, option_map, sym, ap, ◌∙◌}
use Rattle.std.specs.Prelude.{Result, Ok, Err, IsOkAnd}
use Rattle.ed_base.specs.Buffer.{Line}
use Rattle.ed_base.specs.Parts.{between, replaced}
use Rattle.ed_base.specs.declared.fault.Fault.{Fault}
use Rattle.ed_syntax.specs.Commands.{Form}
use Rattle.ed_syntax.specs.declared.replacement.Part.{Part}
use Rattle.ed_syntax.specs.declared.replacement.Which.{Which}
use Rattle.ed_syntax.specs.meaning.States.{State}
use Rattle.ed_syntax.specs.meaning.Values.{◌>>◌, used_pattern}
use Rattle.ed_syntax.specs.meaning.Ranges.{Span}
use Rattle.ed_syntax.specs.meaning.Effects.{Outcome, altered}
use Rattle.ed_syntax.specs.meaning.SubstitutedLines.{Results, each, flag_written, made, made_of, substitute, used_replacement}
use Rattle.ed_commands.specs.declared.editor.past.Before.{Before}
use Rattle.ed_commands.specs.Earlier.{Earlier, earlier_after, earlier_in, with_earlier}
use Rattle.ed_commands.specs.Editors.{kept_at, left_by}
use Rattle.ed_commands.specs.Rewriting.{remembering}

-- the pattern and the replacement that are remembered are those that are used
used : (found : Result (List Part) Fault) (sought : Result (List ℕ) Fault) (s mid : State) (text : List ℕ) (parts : List Part) (f : State → List Part → List ℕ → Result Outcome Fault) →
    (found >> λ parts. sought >> λ text. Ok (record s { pattern = Some text; replacement = Some parts })) ≡ Ok mid → mid.pattern ≡ Some text → mid.replacement ≡ Some parts →
    (found >> λ parts. sought >> λ text. f (record s { pattern = Some text; replacement = Some parts }) parts text) ≡ f mid parts text
used (Ok own) (Ok own_text) s mid text parts f remembered patterned replaced =
    let is : record s { pattern = Some own_text; replacement = Some own } ≡ mid = cc in
    let same_text : own_text ≡ text = let e : Some own_text ≡ Some text = ap (λ (u : State). u.pattern) is ∙ patterned in cc in
    let same_parts : own ≡ parts = let e : Some own ≡ Some parts = ap (λ (u : State). u.replacement) is ∙ replaced in cc in
    ap (λ u. f u own own_text) is ∙ ap (λ p. f mid p own_text) same_parts ∙ ap (f mid parts) same_text
used (Ok own) (Err fault) s mid text parts f remembered patterned replaced = absurd cc
used (Err fault) sought s mid text parts f remembered patterned replaced = absurd cc

-- nothing but these two is remembered
same : (found : Result (List Part) Fault) (sought : Result (List ℕ) Fault) (s mid : State) →
    (found >> λ parts. sought >> λ text. Ok (record s { pattern = Some text; replacement = Some parts })) ≡ Ok mid → mid.lines ≡ s.lines
same (Ok parts) (Ok text) s mid remembered =
    let is : record s { pattern = Some text; replacement = Some parts } ≡ mid = cc in
    sym (ap (λ (u : State). u.lines) is)
same (Ok parts) (Err fault) s mid remembered = absurd cc
same (Err fault) sought s mid remembered = absurd cc

-- the last line that was made is current, and the flag writes it
made-at : (results : Results) (flag : Option Form) (x : Span) (b : Before) (s mid new : State) (line : ℕ) (output : List ℕ) →
    mid.lines ≡ s.lines → Some line ≡ option_map (λ n. x.first - 1 + n) results.1 →
    new ≡ left_by b mid (altered (replaced x.first x.last results.0 mid.lines) line mid) → output ≡ flag_written flag line new.lines →
    IsOkAnd (made b.listed flag x mid results) (λ o. (new ≡ left_by b s o) × (output ≡ o.output))
made-at (lines, None) flag x b s mid new line output kept is left written = absurd cc
made-at (lines, Some n) flag x b s mid new line output kept is left written =
    let at : line ≡ x.first - 1 + n = cc in
    let all = replaced x.first x.last lines mid.lines in (
      left ∙ ap (λ n. left_by b mid (altered all n mid)) at ∙ ap (λ l. left_by b (record s { lines = l }) (altered all (x.first - 1 + n) mid)) kept,
      written ∙ ap (λ (u : State). flag_written flag line u.lines) left ∙ ap (λ n. flag_written flag n all) at,
    )

pub substituted : (pattern : Option (List ℕ)) (replacement : Option (List Part)) (which : Which) (flag : Option Form) (x : Span) (b : Before) (s mid new : State)
    (text : List ℕ) (parts : List Part) (line : ℕ) (output : List ℕ) →
    remembering b.listed pattern replacement s ≡ Ok mid → mid.pattern ≡ Some text → mid.replacement ≡ Some parts →
    Some line ≡ option_map (λ n. x.first - 1 + n) (each (made_of text parts which) (between x.first x.last mid.lines)).1 →
    new ≡ left_by b mid (altered (replaced x.first x.last (each (made_of text parts which) (between x.first x.last mid.lines)).0 mid.lines) line mid) →
    output ≡ flag_written flag line new.lines →
    IsOkAnd (substitute b.listed pattern replacement which flag x s) (λ o. (new ≡ left_by b s o) × (output ≡ o.output))
substituted pattern replacement which flag x b s mid new text parts line output remembered patterned replaced is left written =
    let found = used_replacement b.listed replacement s in
    let sought = used_pattern pattern s in
    let results : State → List Part → List ℕ → Results = λ u parts text. each (made_of text parts which) (between x.first x.last u.lines) in
    let by : substitute b.listed pattern replacement which flag x s ≡ made b.listed flag x mid (results mid parts text) =
    used found sought s mid text parts (λ u parts text. made b.listed flag x u (results u parts text)) remembered patterned replaced in
    rw by (made-at (results mid parts text) flag x b s mid new line output (same found sought s mid remembered) is left written)

-- no line was made, which is no fault in a list
made-nowhere : (results : Results) (flag : Option Form) (x : Span) (b : Before) (s mid new : State) (output : List ℕ) → b.listed ≡ true →
    None ≡ option_map (λ n. x.first - 1 + n) results.1 → new ≡ mid → output ≡ [] →
    IsOkAnd (made b.listed flag x mid results) (λ o. (new ≡ left_by b s o) × (output ≡ o.output))
made-nowhere (lines, None) flag x b s mid new output listed is same none = rw listed (same, none)
made-nowhere (lines, Some n) flag x b s mid new output listed is same none = absurd cc

pub unsubstituted : (pattern : Option (List ℕ)) (replacement : Option (List Part)) (which : Which) (flag : Option Form) (x : Span) (b : Before) (s mid new : State)
    (text : List ℕ) (parts : List Part) (output : List ℕ) →
    remembering b.listed pattern replacement s ≡ Ok mid → mid.pattern ≡ Some text → mid.replacement ≡ Some parts → b.listed ≡ true →
    None ≡ option_map (λ n. x.first - 1 + n) (each (made_of text parts which) (between x.first x.last mid.lines)).1 → new ≡ mid → output ≡ [] →
    IsOkAnd (substitute b.listed pattern replacement which flag x s) (λ o. (new ≡ left_by b s o) × (output ≡ o.output))
unsubstituted pattern replacement which flag x b s mid new text parts output remembered patterned replaced listed is same none =
    let found = used_replacement b.listed replacement s in
    let sought = used_pattern pattern s in
    let results : State → List Part → List ℕ → Results = λ u parts text. each (made_of text parts which) (between x.first x.last u.lines) in
    let by : substitute b.listed pattern replacement which flag x s ≡ made b.listed flag x mid (results mid parts text) =
    used found sought s mid text parts (λ u parts text. made b.listed flag x u (results u parts text)) remembered patterned replaced in
    rw by (made-nowhere (results mid parts text) flag x b s mid new output listed is same none)

-- the lines that were rewritten, with what is kept of those before
pub rewritten-state : (mid : State) (b : Before) (e : Earlier) (lines all : List Line) (line : ℕ) → lines ≡ all → e ≡ earlier_after b.listed (kept_at b.current mid) (earlier_in mid) →
    with_earlier e (record mid { lines = lines; current = line; changed = true }) ≡ left_by b mid (altered all line mid)
rewritten-state mid b e lines all line put kept =
    ap (λ e. with_earlier e (record mid { lines = lines; current = line; changed = true })) kept
    ∙ ap (λ l. with_earlier (earlier_after b.listed (kept_at b.current mid) (earlier_in mid)) (record mid { lines = l; current = line; changed = true })) put

-- where none was rewritten all is as before
pub unwritten-state : (mid : State) (e : Earlier) (lines : List Line) → lines ≡ mid.lines → e ≡ earlier_in mid → with_earlier e (record mid { lines = lines }) ≡ mid
unwritten-state mid e lines same kept =
    ap (λ e. with_earlier e (record mid { lines = lines })) kept ∙ ap (λ l. (let s : State = record mid { lines = l } in s)) same
