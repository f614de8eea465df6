-- Blocks that go out and come in: of a list, of chunks, and of lines with their letters and flags.
use Rattle.std.proofs.Common.{◌≡◌, ℕ, zero, suc, ◌+◌, ◌-◌, ◌<◌, ◌≤◌, List, [], ◌∷◌, ◌++◌, Bool, true, false, cond, take, drop, length, map, get_or, remove, Option, Some, None, refl, sym, ap, ◌∙◌, arith, append_assoc, append-nil, ⊎_elim}
use Rattle.std.proofs.lemmas.Bool.{cases_lt}
use Rattle.std.proofs.lemmas.List.{take_at, drop_at, take_all, take-take, take-append-drop, length-take, length-take-le, length-drop, length-append, length-map, take-map, drop-map, get_or_append_left, get_or-append_right, get_or-drop, get_or-take}
use Rattle.std.proofs.lemmas.List.Sums.{sum_by-append, sum_by-cons}
use Rattle.ed_base.specs.Buffer.{Line, plain_line, no_letters, texts}
use Rattle.ed_base.specs.Parts.{block, exchanged, inserted}
use Rattle.ed_base.proofs.PartLemmas.{front}
use Rattle.line_store.specs.Chunks.{joined, lines_before}
use Rattle.line_store.specs.Kept.{Unflagged, flag_count}
use Rattle.line_store.specs.Lettered.{none_marked}
use Rattle.line_store.specs.Marks.{is_at, letters_at, lettered, AllBelow}
use Rattle.line_store.specs.Shifts.{places_below, places_exchanged, places_swapped}
use Rattle.line_store.specs.Swaps.{swapped}
use Rattle.line_store.proofs.Flags.{none-flagged}
use Rattle.line_store.proofs.Joined.{joined-append, before-take, before-later}
use Rattle.line_store.proofs.Lettered.{line_with, length-lettered, letters_at-are, lettered-below, places-below}
use Rattle.line_store.proofs.Places.{not_at}
use Rattle.line_store.proofs.Ranges.{length-block}
use Rattle.line_store.proofs.Swapped.{swapped-parts}
use Rattle.line_store.proofs.SwappedMarks.{lettered-swapped, places_swapped-below}

-- where a block has gone to the end, the others come first
pub others-first : {X : Type 0} (from to count : ℕ) (xs : List X) → from ≤ to → to ≤ count → count ≡ length xs →
    take (count - (to - from)) (swapped from to count xs) ≡ exchanged from to [] xs
others-first from to count xs h k e =
    let n = count - (to - from) in
    let left = take from xs ++ drop to xs in
    let more = block from to xs ++ drop count xs in
    let rest : block to count xs ≡ drop to xs = ap (drop to) (take_all count xs (omega arith)) in
    let long : length left ≡ n =
    omega (arith, length-append (take from xs) (drop to xs), length-take-le from xs (omega arith), length-drop to xs) in
    ap (λ t. take n (take from xs ++ (t ++ more))) rest
    ∙ ap (take n) (sym (append_assoc (take from xs) (drop to xs) more))
    ∙ take_at left more n long

-- elements that were put at the end, and carried from there to a place
pub carried-in : {X : Type 0} (at count all : ℕ) (new xs : List X) → at ≤ count → count ≡ length xs →
    all ≡ count + length new → swapped at count all (xs ++ new) ≡ inserted at new xs
carried-in at count all new xs h e f =
    let a = take at xs in
    let b = drop at xs in
    ap (λ t. swapped at count all (t ++ new)) (sym (take-append-drop at xs))
    ∙ ap (swapped at count all) (append_assoc a b new ∙ ap (λ t. a ++ (b ++ t)) (sym (append-nil new)))
    ∙ swapped-parts at count all a b new [] (length-take-le at xs (omega arith)) (omega (arith, length-drop at xs)) (omega arith)
    ∙ ap (λ t. a ++ (new ++ t)) (append-nil b)

-- the lines of some chunks are a part of all lines
joined-whole : {X : Type 0} (k : ℕ) (chunks : List (List X)) → joined chunks ≡ joined (take k chunks) ++ joined (drop k chunks)
joined-whole k chunks = ap joined (sym (take-append-drop k chunks)) ∙ joined-append (take k chunks) (drop k chunks)

joined-take : {X : Type 0} (k : ℕ) (chunks : List (List X)) → joined (take k chunks) ≡ take (lines_before k chunks) (joined chunks)
joined-take k chunks =
    sym (ap (take (lines_before k chunks)) (joined-whole k chunks)
    ∙ take_at (joined (take k chunks)) (joined (drop k chunks)) (lines_before k chunks) (before-take k chunks))

joined-drop : {X : Type 0} (k : ℕ) (chunks : List (List X)) → joined (drop k chunks) ≡ drop (lines_before k chunks) (joined chunks)
joined-drop k chunks =
    sym (ap (drop (lines_before k chunks)) (joined-whole k chunks)
    ∙ drop_at (joined (take k chunks)) (joined (drop k chunks)) (lines_before k chunks) (before-take k chunks))

pub joined-block : {X : Type 0} (low high : ℕ) (chunks : List (List X)) → low ≤ high →
    joined (block low high chunks) ≡ block (lines_before low chunks) (lines_before high chunks) (joined chunks)
joined-block low high chunks h =
    let first = take high chunks in
    let same : lines_before low first ≡ lines_before low chunks =
    sym (before-take low first) ∙ ap (λ t. length (joined t)) (take-take low high chunks h) ∙ before-take low chunks in
    joined-drop low first
    ∙ ap (λ n. drop n (joined first)) same
    ∙ ap (drop (lines_before low chunks)) (joined-take high chunks)

-- other chunks in place of some
pub joined-exchanged : {X : Type 0} (low high : ℕ) (new chunks : List (List X)) →
    joined (exchanged low high new chunks) ≡ exchanged (lines_before low chunks) (lines_before high chunks) (joined new) (joined chunks)
joined-exchanged low high new chunks =
    joined-append (take low chunks) (new ++ drop high chunks)
    ∙ ap (λ t. joined (take low chunks) ++ t) (joined-append new (drop high chunks))
    ∙ ap (λ t. t ++ (joined new ++ joined (drop high chunks))) (joined-take low chunks)
    ∙ ap (λ t. take (lines_before low chunks) (joined chunks) ++ (joined new ++ t)) (joined-drop high chunks)

pub length-left : {X : Type 0} (from to count : ℕ) (xs : List X) → from ≤ to → to ≤ count → count ≡ length xs →
    length (exchanged from to [] xs) ≡ count - (to - from)
length-left from to count xs h k e =
    omega (arith, length-append (take from xs) (drop to xs), length-take-le from xs (omega arith), length-drop to xs)

pub length-entered : {X : Type 0} (at : ℕ) (new xs : List X) → at ≤ length xs →
    length (inserted at new xs) ≡ length xs + length new
length-entered at new xs h =
    omega (arith, length-append (take at xs) (new ++ drop at xs), length-append new (drop at xs), length-take-le at xs h, length-drop at xs)

-- chunks that begin at later places are later ones
pub in-order : {X : Type 0} (chunks : List (List X)) (j k low high : ℕ) → lines_before j chunks ≡ low →
    lines_before k chunks ≡ high → low < high → j ≤ k
in-order chunks j k low high a b h = ⊎_elim (λ l. absurd (omega (arith, before-later k j chunks (omega arith)))) (λ l. l) (cases_lt k j)

-- the same, of chunks that begin at these places
pub block-there : {X : Type 0} (low high from to : ℕ) (chunks : List (List X)) (lines : List X) → low ≤ high →
    lines_before low chunks ≡ from → lines_before high chunks ≡ to → joined chunks ≡ lines →
    joined (block low high chunks) ≡ block from to lines
block-there low high from to chunks lines h a b same =
    joined-block low high chunks h
    ∙ ap (λ n. block n (lines_before high chunks) (joined chunks)) a
    ∙ ap (λ n. block from n (joined chunks)) b
    ∙ ap (block from to) same

pub exchanged-there : {X : Type 0} (low high from to : ℕ) (new chunks : List (List X)) (lines : List X) →
    lines_before low chunks ≡ from → lines_before high chunks ≡ to → joined chunks ≡ lines →
    joined (exchanged low high new chunks) ≡ exchanged from to (joined new) lines
exchanged-there low high from to new chunks lines a b same =
    joined-exchanged low high new chunks
    ∙ ap (λ n. exchanged n (lines_before high chunks) (joined new) (joined chunks)) a
    ∙ ap (λ n. exchanged from n (joined new) (joined chunks)) b
    ∙ ap (exchanged from to (joined new)) same

pub length-there : {X : Type 0} (from to : ℕ) (part lines : List X) → part ≡ block from to lines → to ≤ length lines →
    to - from ≡ length part
length-there from to part lines is h = sym (ap length is ∙ length-block from to lines h)

-- how many lines have the flag
pub flags-append : (xs ys : List Line) → flag_count (xs ++ ys) ≡ flag_count xs + flag_count ys
flags-append xs ys = sum_by-append (λ line. cond line.flag 1 0) xs ys

pub flags-block : (from to : ℕ) (lines : List Line) → from ≤ to → flag_count lines ≡ 0 → flag_count (block from to lines) ≡ 0
flags-block from to lines h none =
    omega (
      arith,
      ap flag_count (take-append-drop to lines),
      flags-append (take to lines) (drop to lines),
      ap flag_count (front from to lines h),
      flags-append (take from lines) (block from to lines),
    )

-- the letters of some of the first lines, and of lines that follow others
lettered-take : (marks : List (Option ℕ)) (place count : ℕ) (lines : List Line) →
    lettered marks place (take count lines) ≡ take count (lettered marks place lines)
lettered-take marks place zero lines = refl
lettered-take marks place (suc n) [] = refl
lettered-take marks place (suc n) (line ∷ lines) = ap (λ t. line_with marks place line ∷ t) (lettered-take marks (suc place) n lines)

lettered-append : (marks : List (Option ℕ)) (place next : ℕ) (xs ys : List Line) → next ≡ place + length xs →
    lettered marks place (xs ++ ys) ≡ lettered marks place xs ++ lettered marks next ys
lettered-append marks place next [] ys e = ap (λ n. lettered marks n ys) (let f : place ≡ next = omega arith in f)
lettered-append marks place next (x ∷ xs) ys e =
    ap (λ t. line_with marks place x ∷ t) (lettered-append marks (suc place) next xs ys (omega arith))

-- no letter marks a place after all that letters have
not-there : (count place : ℕ) (o : Option ℕ) → ((p : ℕ) → o ≡ Some p → p < count) → count ≤ place →
    is_at place o ≡ false
not-there count place None below h = refl
not-there count place (Some p) below h = not_at place p (λ e. let l = below p refl in omega arith)

none-after : (marks : List (Option ℕ)) (count place : ℕ) → AllBelow count marks → count ≤ place →
    letters_at place marks ≡ no_letters
none-after marks count place below h =
    letters_at-are place marks no_letters refl
    (λ letter l. not-there count place (get_or marks letter None) (below letter) h ∙ sym (none_marked 26 letter))

pub bare-flag : (flag : Bool) → cond flag 1 0 ≤ 0 → flag ≡ false
bare-flag true h = absurd (omega arith)
bare-flag false h = refl

plain-after : (marks : List (Option ℕ)) (count place : ℕ) (new : List Line) → AllBelow count marks → count ≤ place →
    flag_count new ≡ 0 → lettered marks place new ≡ map plain_line (texts new)
plain-after marks count place [] below h none = refl
plain-after marks count place (line ∷ new) below h none =
    let counted = sum_by-cons (λ line. cond line.flag 1 0) line new in
    ap (λ t. record line { letters = t } ∷ lettered marks (suc place) new) (none-after marks count place below h)
    ∙ ap (λ b. record (plain_line line.bytes) { flag = b } ∷ lettered marks (suc place) new) (bare-flag line.flag (omega arith))
    ∙ ap (λ t. plain_line line.bytes ∷ t) (plain-after marks count (suc place) new below (omega arith) (omega arith))

-- a block of lines has gone out, and its letters mark no line
pub lettered-left : (from to count : ℕ) (marks : List (Option ℕ)) (lines : List Line) → from ≤ to → to ≤ count →
    count ≡ length lines →
    lettered (places_below (count - (to - from)) (places_swapped from to count marks)) 0 (exchanged from to [] lines) ≡ exchanged from to
    [] (lettered marks 0 lines)
lettered-left from to count marks lines h k e =
    let n = count - (to - from) in
    let now = places_swapped from to count marks in
    let moved = swapped from to count lines in
    ap (lettered (places_below n now) 0) (sym (others-first from to count lines h k e))
    ∙ lettered-below n now 0 (take n moved) (omega (arith, length-take n moved))
    ∙ lettered-take now 0 n moved
    ∙ ap (take n) (lettered-swapped from to count marks lines h k (omega arith))
    ∙ others-first from to count (lettered marks 0 lines) h k (e ∙ sym (length-lettered marks 0 lines))

-- a block of lines has come in, which no letter marks
pub lettered-entered : (at count all : ℕ) (marks : List (Option ℕ)) (new lines : List Line) → at ≤ count →
    count ≡ length lines → all ≡ count + length new → AllBelow count marks → flag_count new ≡ 0 →
    lettered (places_swapped at count all marks) 0 (inserted at new lines) ≡ inserted at (map plain_line (texts new))
    (lettered marks 0 lines)
lettered-entered at count all marks new lines h e f below none =
    let long : length (map plain_line (texts new)) ≡ length new = length-map (texts new) plain_line
    ∙ length-map new (λ line. line.bytes) in
    ap (lettered (places_swapped at count all marks) 0) (sym (carried-in at count all new lines h e f))
    ∙ lettered-swapped at count all marks (lines ++ new) h (omega arith) (omega (arith, length-append lines new))
    ∙ ap (swapped at count all) (lettered-append marks 0 count lines new (omega arith)
    ∙ ap (λ t. lettered marks 0 lines ++ t) (plain-after marks count count new below (omega arith) none))
    ∙ carried-in at count all (map plain_line (texts new)) (lettered marks 0 lines) h (e ∙ sym (length-lettered marks 0 lines))
    (omega arith)

-- others in place of a block are others put where it was
exchanged-twice : {X : Type 0} (from to : ℕ) (new xs : List X) → from ≤ length xs →
    exchanged from to new xs ≡ inserted from new (exchanged from to [] xs)
exchanged-twice from to new xs h =
    let long = length-take-le from xs h in
    sym (ap (λ t. t ++ (new ++ drop from (take from xs ++ drop to xs))) (take_at (take from xs) (drop to xs) from long)
    ∙ ap (λ t. take from xs ++ (new ++ t)) (drop_at (take from xs) (drop to xs) from long))

-- others put after a block, which is the same and is then taken out
pub block-before : {X : Type 0} (a b : ℕ) (new xs : List X) → b ≤ length xs → block a b (inserted b new xs) ≡ block a b xs
block-before a b new xs h = ap (drop a) (take_at (take b xs) (new ++ drop b xs) b (length-take-le b xs h))

pub taken-before : {X : Type 0} (a b : ℕ) (new xs : List X) → a ≤ b → b ≤ length xs →
    exchanged a b [] (inserted b new xs) ≡ exchanged a b new xs
taken-before a b new xs h k =
    let mid = inserted b new xs in
    ap (λ t. t ++ drop b mid)
    (sym (take-take a b mid h) ∙ ap (take a) (take_at (take b xs) (new ++ drop b xs) b (length-take-le b xs k)) ∙ take-take a b xs h)
    ∙ ap (λ t. take a xs ++ t) (drop_at (take b xs) (new ++ drop b xs) b (length-take-le b xs k))

pub removed-one : {X : Type 0} (i j : ℕ) (xs : List X) → j ≡ i + 1 → remove xs i ≡ exchanged i j [] xs
removed-one i j xs e = ap (λ n. take i xs ++ drop n xs) (let f : suc i ≡ j = omega arith in f)

pub length-replaced : {X : Type 0} (from to count : ℕ) (new xs : List X) → from ≤ to → to ≤ count → count ≡ length xs →
    length (exchanged from to new xs) ≡ count - (to - from) + length new
length-replaced from to count new xs h k e =
    let left = exchanged from to [] xs in
    omega (
      arith,
      ap length (exchanged-twice from to new xs (omega arith)),
      length-entered from new left (omega (arith, length-left from to count xs h k e)),
      length-left from to count xs h k e,
    )

-- lines without letters have come in place of a block, whose letters mark no line
pub lettered-replaced : (from to count entered : ℕ) (marks : List (Option ℕ)) (new lines : List Line) → from ≤ to → to ≤ count →
    count ≡ length lines → entered ≡ length new → flag_count new ≡ 0 →
    lettered (places_exchanged from to count entered marks) 0 (exchanged from to new lines) ≡ exchanged from to
    (map plain_line (texts new)) (lettered marks 0 lines)
lettered-replaced from to count entered marks new lines h k e f none =
    let n = count - (to - from) in
    let now = places_below n (places_swapped from to count marks) in
    let left = exchanged from to [] lines in
    let plain = map plain_line (texts new) in
    ap (lettered (places_exchanged from to count entered marks) 0) (exchanged-twice from to new lines (omega arith))
    ∙ lettered-entered from n (n + entered) now new left (omega arith) (sym (length-left from to count lines h k e)) (omega arith)
    (places-below n (places_swapped from to count marks)) none
    ∙ ap (inserted from plain) (lettered-left from to count marks lines h k e)
    ∙ sym (exchanged-twice from to plain (lettered marks 0 lines) (omega (arith, length-lettered marks 0 lines)))

pub below-later : (count all : ℕ) (marks : List (Option ℕ)) → count ≤ all → AllBelow count marks → AllBelow all marks
below-later count all marks h below letter place e = let l = below letter place e in omega arith

pub below-replaced : (from to count entered : ℕ) (marks : List (Option ℕ)) → from ≤ to → to ≤ count →
    AllBelow (count - (to - from) + entered) (places_exchanged from to count entered marks)
below-replaced from to count entered marks h k =
    let n = count - (to - from) in
    let now = places_below n (places_swapped from to count marks) in
    places_swapped-below from n (n + entered) (n + entered) now (omega arith) (omega arith) (omega arith)
    (below-later n (n + entered) now (omega arith) (places-below n (places_swapped from to count marks)))

-- as many lines have the flag as in the others
pub flags-replaced : (from to : ℕ) (new lines : List Line) → from ≤ to → flag_count new ≡ 0 →
    flag_count (exchanged from to new lines) + flag_count (block from to lines) ≡ flag_count lines
flags-replaced from to new lines h none =
    omega (
      arith,
      ap flag_count (take-append-drop to lines),
      flags-append (take to lines) (drop to lines),
      ap flag_count (front from to lines h),
      flags-append (take from lines) (block from to lines),
      flags-append (take from lines) (new ++ drop to lines),
      flags-append new (drop to lines),
    )

-- no line before a place had the flag, nor has one before where that is now
pub unflagged-front : (place from to : ℕ) (new lines : List Line) → place ≤ from → from ≤ length lines → Unflagged place lines →
    Unflagged place (exchanged from to new lines)
unflagged-front place from to new lines h k none i l =
    ap (λ line. line.flag)
    (get_or_append_left (take from lines) (new ++ drop to lines) (plain_line []) i (omega (arith, length-take-le from lines k))
    ∙ get_or-take from lines i (plain_line []) (omega arith))
    ∙ none i l

pub unflagged-past : (place from to next : ℕ) (new lines : List Line) → from ≤ place → from ≤ to → to ≤ length lines →
    flag_count new ≡ 0 → next ≤ from + (place - to) + length new → Unflagged place lines →
    Unflagged next (exchanged from to new lines)
unflagged-past place from to next new lines h k m bare far none i l =
    let d = plain_line [] in
    let first = length-take-le from lines (omega arith) in
    ⊎_elim
    (λ low. unflagged-front from from to new lines (omega arith) (omega arith) (λ j b. none j (omega arith)) i low)
    (λ high.
    let second = get_or-append_right (take from lines) (new ++ drop to lines) from i d first high in
    ⊎_elim
    (λ among. ap (λ line. line.flag) (second ∙ get_or_append_left new (drop to lines) d (i - from) among)
    ∙ none-flagged new bare (length new) refl (i - from) among)
    (λ after. ap (λ line. line.flag)
    (second ∙ get_or-append_right new (drop to lines) (length new) (i - from) d refl after
    ∙ get_or-drop to lines (i - from - length new) d)
    ∙ none (to + (i - from - length new)) (omega arith))
    (cases_lt (i - from) (length new)))
    (cases_lt i from)

-- letters change no text
pub texts-lettered : (marks : List (Option ℕ)) (place : ℕ) (lines : List Line) → texts (lettered marks place lines) ≡ texts lines
texts-lettered marks place [] = refl
texts-lettered marks place (line ∷ lines) = ap (λ t. line.bytes ∷ t) (texts-lettered marks (suc place) lines)

pub texts-block : (from to : ℕ) (lines : List Line) → texts (block from to lines) ≡ block from to (texts lines)
texts-block from to lines =
    sym (drop-map (λ (l : Line). l.bytes) from (take to lines)) ∙ ap (drop from) (sym (take-map (λ (l : Line). l.bytes) to lines))

pub block-lettered : (from to : ℕ) (marks : List (Option ℕ)) (lines : List Line) →
    texts (block from to lines) ≡ texts (block from to (lettered marks 0 lines))
block-lettered from to marks lines =
    texts-block from to lines ∙ ap (block from to) (sym (texts-lettered marks 0 lines))
    ∙ sym (texts-block from to (lettered marks 0 lines))

-- the texts of new lines are those that they were made of
pub texts-plain : (text : List (List ℕ)) → texts (map plain_line text) ≡ text
texts-plain [] = refl
texts-plain (line ∷ more) = ap (λ t. line ∷ t) (texts-plain more)

pub texts-drop_plain : (n : ℕ) (lines : List Line) → texts (drop n (map plain_line (texts lines))) ≡ texts (drop n lines)
texts-drop_plain zero lines = texts-plain (texts lines)
texts-drop_plain (suc n) [] = refl
texts-drop_plain (suc n) (line ∷ lines) = texts-drop_plain n lines

-- no new line has the flag
pub plain-bare : (text : List (List ℕ)) → flag_count (map plain_line text) ≡ 0
plain-bare [] = refl
plain-bare (line ∷ more) = omega (arith, sum_by-cons (λ line. cond line.flag 1 0) (plain_line line) (map plain_line more), plain-bare more)

-- a new line after others
pub plain-push : (lines : List Line)
    (line : Line) → map plain_line (texts (lines ++ line ∷ [])) ≡ map plain_line (texts lines) ++ plain_line line.bytes ∷ []
plain-push [] line = refl
plain-push (first ∷ lines) line = ap (λ t. plain_line first.bytes ∷ t) (plain-push lines line)

-- one of them
pub plain-at : (lines : List Line) (i : ℕ) (d : Line) → i < length lines →
    get_or (map plain_line (texts lines)) i d ≡ plain_line (get_or lines i d).bytes
plain-at [] i d h = absurd (omega arith)
plain-at (line ∷ lines) zero d h = refl
plain-at (line ∷ lines) (suc i) d h = plain-at lines i d (omega arith)
