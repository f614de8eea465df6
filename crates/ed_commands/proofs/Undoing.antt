-- Changes that are taken back, and those that would do them again.
use Rattle.std.proofs.Common.{◌≡◌, ℕ, zero, suc, ◌+◌, ◌-◌, ◌<◌, ◌≤◌, Bool, true, false, not, cond, List, [], ◌∷◌, ◌++◌, take, drop, length, map, min, get_or, set, reverse, nat_lt, Option, Some, None, refl, sym, subst, ap, append-nil, ◌∙◌, arith, ⊎_elim}
use Rattle.std.specs.Prelude.{IfSome, count_by, option_map}
use Rattle.std.specs.List.{position_or_len}
use Rattle.std.proofs.lemmas.Bool.{cases_lt, cond-true, lt-ltb}
use Rattle.std.proofs.lemmas.List.{take_all, take_min, take-take, drop_all, drop_min, drop_more, length-append, length-drop, length-map, length-reverse, length-take, length-take-le, take-append-drop, drop-append-le}
use borrow.Rule.Slice.PartMut.{post_of, put_mid}
use Rattle.std.proofs.lemmas.List.Quantifiers.{position-Some}
use Rattle.std.proofs.Math.Seq.{map-set_same}
use Rattle.ed_base.specs.Buffer.{Line, plain_line, texts, with_flag, flagged_at, flagged_place}
use Rattle.ed_base.specs.Parts.{block, carried, exchanged}
use Rattle.line_store.specs.Marks.{letters_at, lettered}
use Rattle.ed_syntax.specs.meaning.States as states
use Rattle.ed_syntax.specs.meaning.States.{unflagged}
use Rattle.ed_syntax.proofs.meaning.CountLemmas.{counts, counted-cons}
use Rattle.ed_commands.specs.declared.editor.past.Change.{Change}
use Rattle.ed_commands.specs.declared.editor.past.Held.{Held}
use Rattle.ed_commands.specs.declared.editor.past.OpenGlobal.{OpenGlobal}
use Rattle.ed_commands.specs.declared.editor.past.Undone.TheVariants as undone
use Rattle.ed_commands.specs.Earlier.{Earlier, GlobalWithin, HeldWithin, PastValue, Restores, earlier_of, held_buffer, kept_lines, kept_of, open_global, StandsAfter, rewound, texts_before, undone_past}
use Rattle.ed_commands.proofs.Blocks.{length-exchanged}
use Rattle.ed_commands.proofs.Kept.{kept-own, rewound-more}

-- a place after the end is the end
drop-cut : {X : Type 0} (a n : ℕ) (xs : List X) → length xs ≤ n → drop (min a n) xs ≡ drop a xs
drop-cut a n xs h = ⊎_elim
    (λ l. ap (λ k. drop k xs) (let e : min a n ≡ a = omega arith in e))
    (λ l. drop_all (min a n) xs (omega arith) ∙ sym (drop_all a xs (omega arith)))
    (cases_lt a n)

pub exchanged-cut : {X : Type 0} (a b i j : ℕ) (new xs : List X) → i ≡ min a (length xs) → j ≡ min b (length xs) → exchanged i j new xs ≡ exchanged a b new xs
exchanged-cut a b i j new xs h k =
    ap (λ n. take n xs ++ (new ++ drop j xs)) h
    ∙ ap (λ t. t ++ (new ++ drop j xs)) (take_min a xs)
    ∙ ap (λ n. take a xs ++ (new ++ drop n xs)) k
    ∙ ap (λ t. take a xs ++ (new ++ t)) (drop_min b xs)

block-cut : {X : Type 0} (a b i j : ℕ) (xs : List X) → i ≡ min a (length xs) → j ≡ min b (length xs) → block i j xs ≡ block a b xs
block-cut a b i j xs h k =
    ap (λ n. drop i (take n xs)) k
    ∙ ap (drop i) (take_min b xs)
    ∙ ap (λ n. drop n (take b xs)) h
    ∙ drop-cut a (length xs) (take b xs) (omega (arith, length-take b xs))

pub carried-cut : {X : Type 0} (a b place i j p : ℕ) (xs : List X) → i ≡ min a (length xs) → j ≡ min b (length xs) → i ≤ j → p ≡ min place (length xs - (j - i)) →
    carried i j p xs ≡ carried a b place xs
carried-cut {X = X} a b place i j p xs h k order e =
    let left = exchanged i j [] xs in
    let none : length {A = X} [] ≡ 0 = refl in
    let at : p ≡ min place (length left) = omega (arith, length-exchanged i j [] xs order (omega arith), none) in
    exchanged-cut place place p p (block i j xs) left at at
    ∙ ap (λ t. exchanged place place t left) (block-cut a b i j xs h k)
    ∙ ap (exchanged place place (block a b xs)) (exchanged-cut a b i j [] xs h k)

-- one more change taken back
pub rewound-step : (changes : List Change) (i : ℕ) (d : Change) (now : List (List ℕ)) → i < length changes →
    rewound (drop i changes) now ≡ texts_before (get_or changes i d) (rewound (drop (i + 1) changes) now)
rewound-step changes i d now h = ap (λ t. rewound t now) (drop_more changes i d h)

-- the changes before one are the same where those up to it are
pub earlier-kept : {X : Type 0} (i : ℕ) (xs ys : List X) → take (i + 1) xs ≡ take (i + 1) ys → take i xs ≡ take i ys
earlier-kept i xs ys h =
    sym (take-take i (i + 1) xs (omega arith)) ∙ ap (take i) h ∙ take-take i (i + 1) ys (omega arith)

-- the last elements of a list in reverse order
pub reversed-rest : {X : Type 0} (a b count : ℕ) (list whole part : List X) → list ≡ whole → a ≤ length whole → b ≡ length whole → count ≡ length whole →
    part ≡ reverse (take (b - a) (drop a list)) →
    take count (put_mid a (b - a) list part ++ drop (length (put_mid a (b - a) list part)) whole) ≡ take a whole ++ reverse (drop a whole)
reversed-rest a b count list whole part same h last all turns =
    let k = b - a in
    let now = put_mid a k list part in
    let turned : part ≡ reverse (drop a whole) =
    turns ∙ ap (λ t. reverse (take k (drop a t))) same ∙ ap reverse (take_all k (drop a whole) (omega (arith, length-drop a whole))) in
    let none : drop k (drop a whole) ≡ [] = drop_all k (drop a whole) (omega (arith, length-drop a whole)) in
    let is : now ≡ take a whole ++ reverse (drop a whole) =
    ap (λ t. take a t ++ (part ++ post_of a k t)) same
    ∙ ap (λ t. take a whole ++ (part ++ t)) none
    ∙ ap (λ t. take a whole ++ t) (append-nil part ∙ turned) in
    let size : length now ≡ count =
    ap length is ∙ length-append (take a whole) (reverse (drop a whole))
    ∙ omega (arith, length-take-le a whole h, length-reverse (drop a whole), length-drop a whole) in
    ap (λ t. take count (now ++ t)) (drop_all (length now) whole (omega arith))
    ∙ ap (take count) (append-nil now)
    ∙ take_all count now (omega arith)
    ∙ is

rewound-append : (xs ys : List Change) (now : List (List ℕ)) → rewound (xs ++ ys) now ≡ rewound xs (rewound ys now)
rewound-append [] ys now = refl
rewound-append (x ∷ xs) ys now = ap (texts_before x) (rewound-append xs ys now)

-- what is held of an earlier buffer is the same once changes were taken back and would be done again
pub held-through : (h : Held) (old new : List Change) (was now : List (List ℕ)) → HeldWithin (length old) h → take (length old) new ≡ old →
    rewound (drop (length old) new) now ≡ was → held_buffer h new now ≡ held_buffer h old was
held-through h old new was now within front back =
    let later = drop (length old) new in
    let whole : new ≡ old ++ later = sym (take-append-drop (length old) new) ∙ ap (λ t. t ++ later) front in
    ap (λ t. kept_of h.current h.marks (rewound (drop h.since t) now)) whole
    ∙ ap (λ t. kept_of h.current h.marks (rewound t now)) (drop-append-le h.since old later within)
    ∙ ap (kept_of h.current h.marks) (rewound-append (drop h.since old) later now)
    ∙ ap (λ t. kept_of h.current h.marks (rewound (drop h.since old) t)) back

pub global-through : (g : Option OpenGlobal) (since : ℕ) (old new : List Change) (was now : List (List ℕ)) → GlobalWithin (length old) g →
    IfSome g (λ _. StandsAfter old since new) → rewound (drop since new) now ≡ was → option_map (open_global new now) g ≡ option_map (open_global old was) g
global-through None since old new was now within after back = refl
global-through (Some o) since old new was now within after back =
    let front : take (length old) new ≡ old = ap (λ n. take n new) (sym after.0) ∙ after.1 in
    let later : rewound (drop (length old) new) now ≡ was = ap (λ n. rewound (drop n new) now) (sym after.0) ∙ back in
    ap (λ k. Some (record { before = k; altered = o.altered })) (held-through o.held old new was now within front later)

-- a flag that is taken is none the less taken with the others
pub unflagged-taken : (place : ℕ) (lines : List Line) → unflagged (flagged_at place false lines) ≡ unflagged lines
unflagged-taken place lines =
    map-set_same (with_flag false) lines place (with_flag false (get_or lines place (plain_line []))) (plain_line []) refl

-- where no line has the flag, none is to be taken
bare-line : (line : Line) → line.flag ≡ false → with_flag false line ≡ line
bare-line line h = ap (λ b. with_flag b line) (sym h)

bare-first : (line : Line) (lines : List Line) (flag : Bool) → line.flag ≡ flag → (length lines ≤ position_or_len (λ line. line.flag) lines → unflagged lines ≡ lines) →
    suc (length lines) ≤ cond (not flag) (1 + position_or_len (λ line. line.flag) lines) 0 → unflagged (line ∷ lines) ≡ line ∷ lines
bare-first line lines true h rest past = absurd (omega arith)
bare-first line lines false h rest past = ap (λ t. t ∷ unflagged lines) (bare-line line h) ∙ ap (λ t. line ∷ t) (rest (omega arith))

bare-lines : (lines : List Line) → length lines ≤ position_or_len (λ line. line.flag) lines → unflagged lines ≡ lines
bare-lines [] past = refl
bare-lines (line ∷ lines) past = bare-first line lines line.flag refl (bare-lines lines) past

pub none-flagged : (lines : List Line) → flagged_place lines ≡ None → unflagged lines ≡ lines
none-flagged lines none = ⊎_elim
    (λ l. let n = position_or_len (λ line. line.flag) lines in
    let some : flagged_place lines ≡ Some n = cond-true (nat_lt n (length lines)) (Some n) None (lt-ltb n (length lines) l) in absurd cc)
    (λ past. bare-lines lines past)
    (cases_lt (position_or_len (λ line. line.flag) lines) (length lines))

-- letters and flags that lines had don't count where they are given letters and lose their flags
lettered-bare : (marks : List (Option ℕ)) (place : ℕ) (lines : List Line) → lettered marks place (unflagged lines) ≡ lettered marks place (map plain_line (texts lines))
lettered-bare marks place [] = refl
lettered-bare marks place (line ∷ lines) = ap (λ t. record (plain_line line.bytes) { letters = letters_at place marks } ∷ t) (lettered-bare marks (suc place) lines)

texts-bare : (marks : List (Option ℕ)) (place : ℕ) (lines : List Line) → texts (lettered marks place (unflagged lines)) ≡ texts lines
texts-bare marks place [] = refl
texts-bare marks place (line ∷ lines) = ap (λ t. line.bytes ∷ t) (texts-bare marks (suc place) lines)

-- the buffer that is held comes in place of the present one, which is held then
pub restored : (p q : PastValue) (h : Held) (current since line room : ℕ) (marks : List (Option ℕ)) (changes : List Change) (old mid new : List Line) →
    p.undone ≡ undone.Was h → GlobalWithin (length p.changes) p.global → IfSome p.global (λ _. StandsAfter p.changes since changes) →
    texts mid ≡ rewound (drop h.since p.changes) (texts old) → rewound (drop since changes) (texts mid) ≡ texts old → lettered marks 0 old ≡ old →
    new ≡ lettered h.marks 0 (unflagged mid) → line ≡ min h.current (length new) →
    ((now : List (List ℕ)) → earlier_of q now ≡ earlier_of (record { undone = undone.Was (record { current = current; marks = marks; since = since }); global = p.global; changes = changes; room = room }) now) →
    Restores (earlier_of p (texts old)).past current old new (earlier_of p (texts old)) (earlier_of q (texts new)) (Some line)
unfolding earlier_of
restored p q h current since line room marks changes old mid new was within after back again own put at kept =
    let then = rewound (drop h.since p.changes) (texts old) in
    let global = option_map (open_global changes (texts new)) p.global in
    let is : (earlier_of p (texts old)).past ≡ states.Was (held_buffer h p.changes (texts old)) = ap (λ u. undone_past u p.changes (texts old)) was in
    let same : texts new ≡ texts mid = ap texts put ∙ texts-bare h.marks 0 mid in
    let through : rewound (drop since changes) (texts new) ≡ texts old = ap (rewound (drop since changes)) same ∙ again in
    let long : length new ≡ length then = sym (length-map new (λ (l : Line). l.bytes)) ∙ ap length (same ∙ back) in
    let present : kept_of current marks (rewound (drop since changes) (texts new)) ≡ kept_lines current old =
    ap (kept_of current marks) through ∙ kept-own current marks old own in
    let before = earlier_of p (texts old) in
    subst (λ k. Restores k current old new before (earlier_of q (texts new)) (Some line)) (sym is) (
      put ∙ lettered-bare h.marks 0 mid ∙ ap (λ t. lettered h.marks 0 (map plain_line t)) back,
      at ∙ ap (min h.current) long,
      kept (texts new)
          ∙ ap (λ k. (let e : Earlier = record { past = states.Was k; global = global } in e)) present
          ∙ ap (λ g. (let e : Earlier = record { past = states.Was (kept_lines current old); global = g } in e))
          (global-through p.global since p.changes changes (texts old) (texts new) within after through),
    )

-- one line fewer has the flag once it was taken
fewer-set : (lines : List Line) (i : ℕ) (d : Line) → i < length lines → (get_or lines i d).flag ≡ true →
    count_by (λ line. line.flag) (set lines i (with_flag false (get_or lines i d))) + 1 ≡ count_by (λ line. line.flag) lines
fewer-set [] i d h has = absurd (omega arith)
fewer-set (line ∷ lines) zero d h has =
    let there : counts (λ line. line.flag) line ≡ 1 = ap (λ b. cond b 1 0) has in
    let gone : counts (λ line. line.flag) (with_flag false line) ≡ 0 = refl in
    omega (arith, there, gone, counted-cons (λ line. line.flag) line lines, counted-cons (λ line. line.flag) (with_flag false line) lines)
fewer-set (line ∷ lines) (suc i) d h has =
    let changed = set lines i (with_flag false (get_or lines i d)) in
    omega (arith, fewer-set lines i d (omega arith) has, counted-cons (λ line. line.flag) line lines, counted-cons (λ line. line.flag) line changed)

pub fewer-flags : (lines : List Line) (place : ℕ) → flagged_place lines ≡ Some place →
    count_by (λ line. line.flag) (flagged_at place false lines) + 1 ≡ count_by (λ line. line.flag) lines
fewer-flags lines place found =
    let there = position-Some (λ line. line.flag) lines place (plain_line []) found in
    fewer-set lines place (plain_line []) there.0 there.1
