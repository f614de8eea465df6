-- What is held of earlier buffers, once changes came or went.
use Rattle.std.proofs.Common.{◌≡◌, ℕ, suc, ◌+◌, ◌≤◌, List, [], ◌∷◌, ◌++◌, take, drop, get_or, set, length, map, min, Option, Some, None, option_map, refl, sym, subst, ap, append_assoc, ◌∙◌, arith}
use Rattle.std.proofs.lemmas.List.{drop_at, drop-append-le, drop-drop, length-map, length-set, length-take-le, take_all, take_at, take_more, take_more_set}
use Rattle.ed_base.specs.Buffer.{Line, plain_line, texts}
use Rattle.ed_base.specs.Parts.{exchanged}
use Rattle.line_store.specs.Marks.{letters_at, lettered}
use Rattle.ed_syntax.specs.meaning.States as states
use Rattle.ed_syntax.specs.meaning.States.{Kept, State, kept, last, unflagged}
use Rattle.ed_commands.specs.declared.editor.past.Change.{Change}
use Rattle.ed_commands.specs.declared.editor.past.Held.{Held}
use Rattle.ed_commands.specs.declared.editor.past.OpenGlobal.{OpenGlobal}
use Rattle.ed_commands.specs.declared.editor.past.Undone.{Undone}
use Rattle.ed_commands.specs.declared.editor.past.Undone.TheVariants as undone
use Rattle.ed_commands.specs.Editors.{kept_at}
use Rattle.ed_commands.specs.Earlier.{Earlier, GlobalWithin, HeldWithin, UndoneWithin, held_buffer, kept_of, open_global, rewound, texts_before, undone_past, kept_lines}

-- one more change is taken back before the others
pub rewound-more : (changes : List Change) (c : Change) (now : List (List ℕ)) → rewound (changes ++ c ∷ []) now ≡ rewound changes (texts_before c now)
rewound-more [] c now = refl
rewound-more (first ∷ changes) c now = ap (texts_before first) (rewound-more changes c now)

-- a buffer that is held, with one more change
pub held-more : (h : Held) (changes : List Change) (c : Change) (now : List (List ℕ)) → HeldWithin (length changes) h →
    held_buffer h (changes ++ c ∷ []) now ≡ held_buffer h changes (texts_before c now)
held-more h changes c now within =
    ap (λ t. kept_of h.current h.marks (rewound t now)) (drop-append-le h.since changes (c ∷ []) within)
    ∙ ap (kept_of h.current h.marks) (rewound-more (drop h.since changes) c now)

pub undone-more : (u : Undone) (changes : List Change) (c : Change) (now : List (List ℕ)) → UndoneWithin (length changes) u →
    undone_past u (changes ++ c ∷ []) now ≡ undone_past u changes (texts_before c now)
undone-more undone.Nothing changes c now within = refl
undone-more undone.Same changes c now within = refl
undone-more (undone.Was h) changes c now within = ap (λ k. states.Was k) (held-more h changes c now within)

pub global-more : (g : Option OpenGlobal) (changes : List Change) (c : Change) (now : List (List ℕ)) → GlobalWithin (length changes) g →
    option_map (open_global (changes ++ c ∷ []) now) g ≡ option_map (open_global changes (texts_before c now)) g
global-more None changes c now within = refl
global-more (Some o) changes c now within =
    ap (λ k. Some (record { before = k; altered = o.altered })) (held-more o.held changes c now within)

-- a change that is joined to the last one
pub undone-joined : (u : Undone) (front : List Change) (last both : Change) (before now : List (List ℕ)) → UndoneWithin (length front) u →
    texts_before both now ≡ texts_before last before → undone_past u (front ++ both ∷ []) now ≡ undone_past u (front ++ last ∷ []) before
undone-joined u front last both before now within same =
    undone-more u front both now within ∙ ap (undone_past u front) same ∙ sym (undone-more u front last before within)

pub global-joined : (g : Option OpenGlobal) (front : List Change) (last both : Change) (before now : List (List ℕ)) → GlobalWithin (length front) g →
    texts_before both now ≡ texts_before last before → option_map (open_global (front ++ both ∷ []) now) g ≡ option_map (open_global (front ++ last ∷ []) before) g
global-joined g front last both before now within same =
    global-more g front both now within ∙ ap (λ t. option_map (open_global front t) g) same ∙ sym (global-more g front last before within)

-- what is kept of earlier buffers, told from these changes
abbrev pub earlier_by : Undone → Option OpenGlobal → List Change → (now : List (List ℕ)) → Earlier
earlier_by u g changes now = record { past = undone_past u changes now; global = option_map (open_global changes now) g }

pub earlier-pushed : (u : Undone) (g : Option OpenGlobal) (changes : List Change) (change : Change) (now : List (List ℕ)) → UndoneWithin (length changes) u →
    GlobalWithin (length changes) g → earlier_by u g (changes ++ change ∷ []) now ≡ earlier_by u g changes (texts_before change now)
earlier-pushed u g changes change now undone global =
    ap (λ p. (let o : Earlier = record { past = p; global = option_map (open_global (changes ++ change ∷ []) now) g } in o)) (undone-more u changes change now undone)
    ∙ ap (λ k. (let o : Earlier = record { past = undone_past u changes (texts_before change now); global = k } in o)) (global-more g changes change now global)

pub earlier-joined : (u : Undone) (g : Option OpenGlobal) (changes : List Change) (last : ℕ) (own both : Change) (before now : List (List ℕ)) →
    last + 1 ≡ length changes → own ≡ get_or changes last own → UndoneWithin last u → GlobalWithin last g → texts_before both now ≡ texts_before own before →
    earlier_by u g (set changes last both) now ≡ earlier_by u g changes before
earlier-joined u g changes last own both before now counted at undone global same =
    let front = take last changes in
    let long : length front ≡ last = length-take-le last changes (omega arith) in
    let old : changes ≡ front ++ own ∷ [] =
    sym (take_all (last + 1) changes (omega arith)) ∙ take_more changes last own (omega arith) ∙ ap (λ k. front ++ k ∷ []) (sym at) in
    let new : set changes last both ≡ front ++ both ∷ [] =
    sym (take_all (last + 1) (set changes last both) (omega (arith, length-set changes last both))) ∙ take_more_set changes last both (omega arith) in
    ap (λ t. earlier_by u g t now) new
    ∙ ap (λ p. (let o : Earlier = record { past = p; global = option_map (open_global (front ++ both ∷ []) now) g } in o))
    (undone-joined u front own both before now (subst (λ n. UndoneWithin n u) (sym long) undone) same)
    ∙ ap (λ k. (let o : Earlier = record { past = undone_past u (front ++ own ∷ []) before; global = k } in o))
    (global-joined g front own both before now (subst (λ n. GlobalWithin n g) (sym long) global) same)
    ∙ ap (λ t. earlier_by u g t before) (sym old)

-- the texts before two changes of one place, of which the later one took out all that came in with the first
pub texts-joined : {X : Type 0} (from passed entered : ℕ) (removed more now : List X) → passed ≤ length more → from ≤ length now →
    exchanged from (from + entered) (removed ++ drop passed more) now ≡ exchanged from (from + passed) removed (exchanged from (from + entered) more now)
texts-joined from passed entered removed more now h within =
    let front = take from now in
    let back = drop (from + entered) now in
    let long : length front ≡ from = length-take-le from now within in
    ap (λ t. front ++ t) (append_assoc removed (drop passed more) back)
    ∙ ap (λ t. front ++ (removed ++ t))
    (sym (drop-append-le passed more back h) ∙ ap (drop passed) (sym (drop_at front (more ++ back) from long)) ∙ drop-drop passed from (front ++ (more ++ back)))
    ∙ ap (λ t. t ++ (removed ++ drop (from + passed) (front ++ (more ++ back)))) (sym (take_at front (more ++ back) from long))

-- lines with their letters, without flags
lettered-plain : (marks : List (Option ℕ)) (place : ℕ) (lines : List Line) → lettered marks place (map plain_line (texts lines)) ≡ unflagged (lettered marks place lines)
lettered-plain marks place [] = refl
lettered-plain marks place (line ∷ lines) =
    ap (λ t. record (plain_line line.bytes) { letters = letters_at place marks } ∷ t) (lettered-plain marks (suc place) lines)

-- what undo keeps of lines is told from their texts and the places of their letters
pub kept-own : (current : ℕ) (marks : List (Option ℕ)) (lines : List Line) → lettered marks 0 lines ≡ lines → kept_of current marks (texts lines) ≡ kept_lines current lines
kept-own current marks lines own =
    ap (λ (t : List Line). (let k : Kept = record { lines = t; current = min current (length (texts lines)) } in k)) (lettered-plain marks 0 lines ∙ ap unflagged own)
    ∙ ap (λ n. (let k : Kept = record { lines = unflagged lines; current = min current n } in k)) (length-map lines (λ (l : Line). l.bytes))

-- the current line is one of the lines, so that undo keeps it as it is
pub kept-same : (s t : State) (current : ℕ) → t.lines ≡ s.lines → current ≡ s.current → s.current ≤ last s → kept_at current t ≡ kept s
kept-same s t current lines was within =
    ap (kept_lines current) lines
    ∙ ap (λ n. (let k : Kept = record { lines = unflagged s.lines; current = n } in k)) (let e : min current (last s) ≡ s.current = omega arith in e)
