-- What a global command leaves before its list is run: the lines have their texts, and undo what it kept.
use Rattle.std.proofs.Common.{◌≡◌, ℕ, zero, suc, cond, count_by, ◌+◌, ◌-◌, ◌<◌, ◌≤◌, length, get_or, set, Bool, true, false, List, [], ◌∷◌, ◌++◌, map, Option, Some, None, Result, Ok, Err, refl, sym, ap, ◌∙◌, subst, ⊎_elim, arith}
use Rattle.std.specs.Prelude.{IsOkAnd, is_some, ok_or}
use Rattle.std.proofs.lemmas.Bool.{cases_lt}
use Rattle.std.proofs.lemmas.List.{length-map, map-append, take-append-drop}
use Rattle.std.proofs.lemmas.List.Sums.{sum_by-cons}
use Rattle.bre_parse.specs.Grammar as bre
use Rattle.bre_parse.specs.Match.{match_from}
use Rattle.bre_parse.specs.Tree.{Tree}
use Rattle.ed_base.specs.Buffer.{Line, plain_line, texts, with_flag, flagged_at}
use Rattle.ed_base.specs.Parts.{block, exchanged}
use Rattle.ed_base.specs.declared.fault.Fault.{Fault}
use Rattle.ed_base.specs.declared.fault.Fault.TheVariants as fault
use Rattle.line_store.specs.Marks.{lettered}
use Rattle.ed_syntax.specs.declared.command.Sense.{Sense}
use Rattle.ed_syntax.specs.declared.command.Sense.TheVariants as sense
use Rattle.ed_syntax.specs.declared.request.Answer.{Answer}
use Rattle.ed_syntax.specs.Commands as ed
use Rattle.ed_syntax.specs.meaning.Globals.{flagged, flagged_line, flags, opened, wanted}
use Rattle.ed_syntax.specs.meaning.States.{Kept, State, kept, last}
use Rattle.ed_syntax.specs.meaning.Values.{◌>>◌, matches, sought, used_pattern}
use Rattle.ed_syntax.specs.meaning.Ranges.{Span}
use Rattle.ed_syntax.specs.meaning.Effects.{Outcome, Effect, Makes, Asks, only}
use Rattle.ed_syntax.specs.meaning.Applied.{changed_from, command, completed, effect_of, placed, settled, suffix_written}
use Rattle.ed_syntax.proofs.meaning.CommandSteps.{InOrder, PlacedWell, placed-well}
use Rattle.ed_syntax.proofs.meaning.FaultSteps.{Gives, gives, bind-gives, bind-any}
use Rattle.ed_commands.specs.declared.editor.Reply.TheVariants as reply
use Rattle.ed_commands.specs.Courses.{NoneFrom}
use Rattle.ed_commands.specs.Earlier.{PastValue, earlier_in, earlier_of, kept_of, opening_global, with_earlier}
use Rattle.ed_syntax.specs.meaning.Verbs.{asks, is_global}
use Rattle.ed_commands.specs.Editors.{BeginsBy, Replies, with_pattern}
use Rattle.ed_commands.proofs.Blocks.{block-more, block-none, length-block, set-one, whole}
use Rattle.ed_commands.proofs.Changes.{same-texts}
use Rattle.ed_commands.proofs.Kept.{kept-own, kept-same}
use Rattle.ed_commands.proofs.Rewritten.{counted, gone, next-line, stayed}
use Rattle.ed_commands.proofs.Searching.{fails-at, matched-by, text-at}
use Rattle.ed_commands.proofs.Texts.{texts-block, texts-exchanged}

-- flags change no text
texts-flagged : (which : Sense) (pattern : List ℕ) (lines : List Line) → texts (map (flagged_line which pattern) lines) ≡ texts lines
texts-flagged which pattern [] = refl
texts-flagged which pattern (line ∷ lines) = ap (λ t. line.bytes ∷ t) (texts-flagged which pattern lines)

flagged-texts : (which : Sense) (pattern : List ℕ) (a b : ℕ) (lines : List Line) → a ≤ b →
    texts (exchanged a b (map (flagged_line which pattern) (block a b lines)) lines) ≡ texts lines
flagged-texts which pattern a b lines h =
    texts-exchanged a b (map (flagged_line which pattern) (block a b lines)) lines
    ∙ ap (λ t. exchanged a b t (texts lines)) (texts-flagged which pattern (block a b lines) ∙ texts-block a b lines)
    ∙ whole a b (texts lines) h

-- the first lines of a block were flagged, and one more is
pub flagged-more : (which : Sense) (pattern : List ℕ) (a i : ℕ) (old now : List Line) (flag : Bool) → a ≤ i → i < length old →
    now ≡ exchanged a i (map (flagged_line which pattern) (block a i old)) old → wanted which (matches pattern (get_or now i (plain_line [])).bytes) ≡ flag →
    flagged_at i flag now ≡ exchanged a (i + 1) (map (flagged_line which pattern) (block a (i + 1) old)) old
flagged-more which pattern a i old now flag h inside put is =
    let d = plain_line [] in
    let f = flagged_line which pattern in
    let made = map f (block a i old) in
    let at : i ≡ a + length made = omega (arith, length-map (block a i old) f, length-block a i old (omega arith)) in
    let long : i < length now = omega (arith, counted a i made old now h (omega arith) put) in
    let same : get_or now i d ≡ get_or old i d = next-line a i i made old now d h inside put at in
    ap (λ b. set now i (with_flag b (get_or now i d))) (sym is)
    ∙ ap (λ l. set now i (f l)) same
    ∙ set-one i (f (get_or old i d)) now long
    ∙ gone a i i made (f (get_or old i d) ∷ []) old now d h inside put at
    ∙ ap (λ t. exchanged a (i + 1) t old) (sym (ap (map f) (block-more a i old d h inside) ∙ map-append f (block a i old) (get_or old i d ∷ [])))

-- of no lines none has another flag
pub none-flagged-yet : (which : Sense) (pattern : List ℕ) (a i : ℕ) (old : List Line) → i ≡ a → exchanged a i (map (flagged_line which pattern) (block a i old)) old ≡ old
none-flagged-yet which pattern a i old begun =
    ap (λ k. exchanged a k (map (flagged_line which pattern) (block a k old)) old) begun
    ∙ ap (λ t. exchanged a a (map (flagged_line which pattern) t) old) (block-none a old)
    ∙ take-append-drop a old

-- lines that are as they would be are passed over
flags-passed : (which : Sense) (pattern : List ℕ) (a i n : ℕ) (old : List Line) → a ≤ i → i + n ≤ length old →
    ((j : ℕ) → i ≤ j → j < i + n → flagged_line which pattern (get_or old j (plain_line [])) ≡ get_or old j (plain_line [])) →
    exchanged a i (map (flagged_line which pattern) (block a i old)) old ≡ exchanged a (i + n) (map (flagged_line which pattern) (block a (i + n) old)) old
flags-passed which pattern a i zero old h within same =
    ap (λ k. exchanged a k (map (flagged_line which pattern) (block a k old)) old) (let e : i ≡ i + 0 = omega arith in e)
flags-passed which pattern a i (suc n) old h within same =
    let d = plain_line [] in
    let f = flagged_line which pattern in
    let made = map f (block a i old) in
    let inside : i < length old = omega arith in
    stayed a i made old d inside
    ∙ ap (λ t. exchanged a (i + 1) (made ++ t ∷ []) old) (sym (same i (omega arith) (omega arith)))
    ∙ ap (λ t. exchanged a (i + 1) t old) (sym (ap (map f) (block-more a i old d h inside) ∙ map-append f (block a i old) (get_or old i d ∷ [])))
    ∙ flags-passed which pattern a (i + 1) n old (omega (arith, h)) (omega (arith, within)) (λ j low high. same j (omega (arith, low)) (omega (arith, high)))
    ∙ ap (λ k. exchanged a k (map f (block a k old)) old) (let e : i + 1 + n ≡ i + suc n = omega arith in e)

-- where no line has the flag, this one hasn't
no-flag : (flag : Bool) (others : ℕ) → cond flag 1 0 + others ≡ 0 → flag ≡ false
no-flag true others none = absurd (omega (arith, none))
no-flag false others none = refl

flag-of-none : (lines : List Line) (i : ℕ) → count_by (λ line. line.flag) lines ≡ 0 → (get_or lines i (plain_line [])).flag ≡ false
flag-of-none [] i none = refl
flag-of-none (line ∷ lines) zero none =
    no-flag line.flag (count_by (λ l. l.flag) lines) (sym (sum_by-cons (λ (l : Line). cond l.flag 1 0) line lines) ∙ none)
flag-of-none (line ∷ lines) (suc i) none =
    flag-of-none lines i (omega (arith, sum_by-cons (λ (l : Line). cond l.flag 1 0) line lines, none))

-- so that one that doesn't match is as `g` would have it
unflagged-stays : (pattern : List ℕ) (lines : List Line) (i : ℕ) → count_by (λ line. line.flag) lines ≡ 0 →
    matches pattern (get_or lines i (plain_line [])).bytes ≡ false → flagged_line sense.Matching pattern (get_or lines i (plain_line [])) ≡ get_or lines i (plain_line [])
unflagged-stays pattern lines i none fails =
    let line = get_or lines i (plain_line []) in
    ap (λ b. with_flag b line) (fails ∙ sym (flag-of-none lines i none))

-- lines that don't match are passed over
pub unmatched-passed : (pattern : List ℕ) (tree : Tree) (a i k : ℕ) (old : List Line) → bre.pattern pattern ≡ Ok tree → a ≤ i → i ≤ k → k ≤ length old →
    count_by (λ line. line.flag) old ≡ 0 → NoneFrom tree (texts old) i k →
    exchanged a i (map (flagged_line sense.Matching pattern) (block a i old)) old ≡ exchanged a k (map (flagged_line sense.Matching pattern) (block a k old)) old
unmatched-passed pattern tree a i k old is h order within none fails =
    let at : i + (k - i) ≡ k = omega arith in
    flags-passed sense.Matching pattern a i (k - i) old h (omega arith) (λ j low high.
    unflagged-stays pattern old j none (fails-at pattern tree old j is (fails j low (omega (arith, high)))))
    ∙ ap (λ n. exchanged a n (map (flagged_line sense.Matching pattern) (block a n old)) old) at

-- a line more that doesn't match
none-of : {A : Type 0} (o : Option A) → false ≡ is_some o → o ≡ None
none-of None h = refl
none-of (Some x) h = absurd cc

none-more : (tree : Tree) (lines : List (List ℕ)) (i k : ℕ) → NoneFrom tree lines i k → match_from tree (get_or lines k []) 0 ≡ None → NoneFrom tree lines i (k + 1)
none-more tree lines i k none here = λ j low high.
    ⊎_elim
    (λ before. none j low before)
    (λ last.
    let e : j ≡ k = omega (arith, last, high) in
    subst (λ n. match_from tree (get_or lines n []) 0 ≡ None) (sym e) here)
    (cases_lt j k)

pub skip-unmatched : (pattern : List ℕ) (tree : Tree) (a i k : ℕ) (old now : List Line) (line : List ℕ) → bre.pattern pattern ≡ Ok tree → a ≤ i → i ≤ k → k < length old →
    count_by (λ line. line.flag) old ≡ 0 → NoneFrom tree (texts old) i k → line ≡ get_or (texts old) k [] → false ≡ is_some (match_from tree line 0) →
    now ≡ exchanged a i (map (flagged_line sense.Matching pattern) (block a i old)) old →
    now ≡ exchanged a (k + 1) (map (flagged_line sense.Matching pattern) (block a (k + 1) old)) old
skip-unmatched pattern tree a i k old now line is h order inside none fails text told put =
    put
    ∙ unmatched-passed pattern tree a i (k + 1) old is h (omega (arith, order)) (omega (arith, inside)) none
    (none-more tree (texts old) i k fails (ap (λ t. match_from tree t 0) (sym text) ∙ none-of (match_from tree line 0) told))

-- and one that does
pub flag-matched : (pattern : List ℕ) (tree : Tree) (a i k : ℕ) (old now : List Line) (line : List ℕ) → bre.pattern pattern ≡ Ok tree → a ≤ i → i ≤ k → k < length old →
    count_by (λ line. line.flag) old ≡ 0 → NoneFrom tree (texts old) i k → texts now ≡ texts old → line ≡ get_or (texts old) k [] → true ≡ is_some (match_from tree line 0) →
    now ≡ exchanged a i (map (flagged_line sense.Matching pattern) (block a i old)) old →
    flagged_at k true now ≡ exchanged a (k + 1) (map (flagged_line sense.Matching pattern) (block a (k + 1) old)) old
flag-matched pattern tree a i k old now line is h order inside none fails same text told put =
    flagged-more sense.Matching pattern a k old now true (omega (arith, h, order)) inside
    (put ∙ unmatched-passed pattern tree a i k old is h order (omega (arith, inside)) none fails)
    (ap (matches pattern) (text-at now k ∙ ap (λ t. get_or t k []) same ∙ sym text) ∙ matched-by pattern line tree is ∙ sym told)

-- lines of a span with the flag or not
abbrev pub flagged_span : Sense → (pattern : List ℕ) → Span → List Line → List Line
flagged_span which text x lines = exchanged (x.first - 1) x.last (map (flagged_line which text) (block (x.first - 1) x.last lines)) lines

-- the lines of a span were flagged, in the state that remembers the pattern
pub flagged-by : (s now : State) (which : Sense) (own : Option (List ℕ)) (text : List ℕ) (x : Span) (p : PastValue) (lines : List Line) → x.first ≤ x.last + 1 →
    now ≡ with_pattern (sought own s) s → now.pattern ≡ Some text → earlier_in now ≡ earlier_of p (texts now.lines) → lines ≡ flagged_span which text x now.lines →
    flagged which own x s ≡ Ok (with_earlier (earlier_of p (texts lines)) (record now { lines = lines; current = now.current }))
flagged-by s now which own text x p lines order is remembered was put =
    let some : sought own s ≡ Some text = sym (ap (λ t. t.pattern) is) ∙ remembered in
    ap (λ o. ok_or o fault.Pattern >> λ text. Ok (record s { lines = flagged_span which text x s.lines; pattern = Some text })) some
    ∙ ap (λ t. Ok t) (sym (
    same-texts now p now.current lines (flagged_span which text x now.lines) was put (flagged-texts which text (x.first - 1) x.last now.lines (omega (arith, order)))
    ∙ ap (λ (t : State). record t { lines = flagged_span which text x t.lines }) is
    ∙ ap (λ o. record s { lines = flagged_span which text x s.lines; pattern = o }) some))

-- an effect that changes no text, and isn't a change
abbrev pub Stays : List Line → Effect → Type 0
Stays lines (Makes o) = (texts o.state.lines ≡ texts lines) × (o.alters ≡ false)
Stays lines (Asks r) = ⊥

effect-stays : (verb : ed.Verb) (listed : Bool) (x : Span) (target : ℕ) (t : State) (given : Option Answer) → is_global verb ≡ true → InOrder x →
    Gives (Stays t.lines) (effect_of verb listed x target t given)
effect-stays (ed.Global sense pattern) listed x target t given h order =
    bind-gives (λ u. texts u.lines ≡ texts t.lines) (Stays t.lines) (flagged sense pattern x t) _
    (bind-any (λ u. texts u.lines ≡ texts t.lines) (used_pattern pattern t) _ (λ text.
    gives (λ u. texts u.lines ≡ texts t.lines) _ (flagged-texts sense text (x.first - 1) x.last t.lines (omega (arith, order)))))
    (λ u same. gives (Stays t.lines) (Makes (only u [])) (same, refl))
effect-stays verb listed x target t given h order = absurd cc

settled-same : (listed : Bool) (before : Kept) (o : Outcome) → o.alters ≡ false → settled listed before o ≡ o.state
settled-same listed before o h = ap (λ b. elim b [ true ↦ changed_from listed before o.state | false ↦ o.state ]) h

completed-stays : (c : ed.Command) (s : State) (lines : List Line) (e : Effect) → Stays lines e → Gives (Stays lines) (completed c s e)
completed-stays c s lines (Asks r) h = absurd h
completed-stays c s lines (Makes o) h =
    bind-any (Stays lines) (suffix_written c.suffix o.state) _ (λ more.
    gives (Stays lines) _ (ap (λ t. texts t.lines) (settled-same c.listed (kept s) o h.1) ∙ h.0, h.1))

-- such is a global command before its list
pub global-stays : (s : State) (c : ed.Command) (given : Option Answer) → is_global c.verb ≡ true → Gives (Stays s.lines) (command s c given)
global-stays s c given h =
    bind-gives (PlacedWell s) (Stays s.lines) (placed c s) _ (placed-well c s) (λ p well.
    subst (λ lines. Gives (Stays lines) (effect_of c.verb c.listed p.span p.target p.state given >> completed c s)) well.same.lines
    (bind-gives (Stays p.state.lines) (Stays p.state.lines) (effect_of c.verb c.listed p.span p.target p.state given) (completed c s)
    (effect-stays c.verb c.listed p.span p.target p.state given h well.order)
    (λ e stays. completed-stays c s p.state.lines e stays)))

-- it asks for no file
pub unasking : (verb : ed.Verb) → is_global verb ≡ true → asks verb ≡ true → ⊥
unasking (ed.Global sense pattern) h asked = cc
unasking verb h asked = absurd cc

begun-by : (r : Result Effect Fault) (s mid : State) (output : List ℕ) (k : Kept) (count : ℕ) → IsOkAnd r (Replies s mid (reply.Done output)) → Gives (Stays s.lines) r →
    (texts mid.lines ≡ texts s.lines → k ≡ kept s) → count ≡ flags mid → IsOkAnd r (BeginsBy s (with_earlier (opening_global k (earlier_in mid)) mid) (record { lines = count; output = output }))
begun-by (Err e) s mid output k count h stays keeps counted = absurd h
begun-by (Ok (Asks r)) s mid output k count h stays keeps counted = absurd h
begun-by (Ok (Makes o)) s mid output k count h stays keeps counted =
    let same : texts mid.lines ≡ texts s.lines = ap (λ t. texts t.lines) h.0 ∙ (stays (Makes o) refl).0 in
    (ap (λ k. opened k mid) (keeps same) ∙ ap (opened (kept s)) h.0, counted ∙ ap flags h.0, h.1)

-- it begins, once it is open
pub begun : (s mid : State) (c : ed.Command) (output : List ℕ) (current : ℕ) (marks : List (Option ℕ)) (count : ℕ) →
    is_global c.verb ≡ true → IsOkAnd (command s c None) (Replies s mid (reply.Done output)) → current ≡ s.current → s.current ≤ last s → lettered marks 0 s.lines ≡ s.lines →
    count ≡ flags mid → IsOkAnd (command s c None) (BeginsBy s (with_earlier (opening_global (kept_of current marks (texts mid.lines)) (earlier_in mid)) mid) (record { lines = count; output = output }))
begun s mid c output current marks count global done was within own counted =
    begun-by (command s c None) s mid output (kept_of current marks (texts mid.lines)) count
    done (global-stays s c None global)
    (λ same. ap (kept_of current marks) same ∙ kept-own current marks s.lines own ∙ kept-same s s current refl was within)
    counted
