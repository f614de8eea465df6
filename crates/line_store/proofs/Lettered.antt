-- Lines with just the letters whose places are given, after a line came in, went out or was marked.
use Rattle.std.proofs.Common.{◌≡◌, ℕ, zero, suc, ◌+◌, ◌-◌, ◌<◌, ◌≤◌, List, [], ◌∷◌, Bool, true, false, not, cond, length, map, get_or, set, insert, remove, replicate, nat_lt, Option, Some, None, refl, ap, ◌∙◌, sym, arith, get_or-set_same, get_or-set_other, length-set, ⊎_elim}
use Rattle.std.specs.List.{range_with_len, position_or_len}
use Rattle.std.proofs.lemmas.Bool.{cases_lt, cases_eq, cases_order, cond-true, cond-false, lt-ltb, le-ltb}
use Rattle.std.proofs.lemmas.List.{same_lists, set-set, set_past, get_or_past, get_or_default}
use Rattle.std.proofs.lemmas.List.Edits.{length-insert, get_or-insert_below, get_or-insert_at, get_or-insert_above, length-remove, get_or-remove_below, get_or-remove_above}
use Rattle.std.proofs.lemmas.List.FromFn.{length-map-range_with_len, get_or-map-range_with_len, fill_by_all}
use Rattle.ed_base.specs.Buffer.{Line, plain_line, has_letter, with_letter, marked_place, marked_at, SharesNoLetter}
use Rattle.line_store.specs.Marks.{is_at, letters_at, lettered, AllBelow}
use Rattle.line_store.specs.Shifts.{below, closed, opened, places_below, with_line, without_line}
use Rattle.line_store.specs.Lettered.{letter-there, some_same}
use Rattle.line_store.proofs.Places.{opened-low, opened-high, closed-there, closed-low, closed-high, opened-below, opened-there, opened-above, closed-below, closed-above, is_there, not_at}

pub length-lettered : (marks : List (Option ℕ)) (place : ℕ) (lines : List Line) → length (lettered marks place lines) ≡ length lines
length-lettered marks place [] = refl
length-lettered marks place (line ∷ lines) = ap (λ n. suc n) (length-lettered marks (suc place) lines)

-- a line at its place, with the letters of that place
abbrev pub line_with : List (Option ℕ) → ℕ → Line → Line
line_with marks place line = record line { letters = letters_at place marks }

pub get_or-lettered : (marks : List (Option ℕ)) (place i j : ℕ) (lines : List Line) (d : Line) → i < length lines → place + i ≡ j →
    get_or (lettered marks place lines) i d ≡ line_with marks j (get_or lines i d)
get_or-lettered marks place i j [] d h e = absurd (omega arith)
get_or-lettered marks place zero j (line ∷ lines) d h e = ap (λ n. line_with marks n line) (let f : place ≡ j = omega arith in f)
get_or-lettered marks place (suc i) j (line ∷ lines) d h e = get_or-lettered marks (suc place) i j lines d (omega arith) (omega arith)

-- two functions that agree at each letter
same-letters : {X : Type 0} (d : X) (f g : ℕ → X) (n : ℕ) → ((k : ℕ) → k < n → f k ≡ g k) → map f (range_with_len 0 n) ≡ map g (range_with_len 0 n)
same-letters d f g n h =
    fill_by_all g (map f (range_with_len 0 n)) n d (length-map-range_with_len f 0 n)
    (λ k b. get_or-map-range_with_len f 0 n k k d b (omega arith) ∙ h k b)

-- the same letters at two places
pub letters_at-same : (p q : ℕ) (marks others : List (Option ℕ)) → ((letter : ℕ) → letter < 26 → is_at p (get_or marks letter None) ≡ is_at q (get_or others letter None)) →
    letters_at p marks ≡ letters_at q others
letters_at-same p q marks others h = same-letters false (λ k. is_at p (get_or marks k None)) (λ k. is_at q (get_or others k None)) 26 h

-- these letters at a place
pub letters_at-are : (p : ℕ) (marks : List (Option ℕ)) (letters : List Bool) → length letters ≡ 26 →
    ((letter : ℕ) → letter < 26 → is_at p (get_or marks letter None) ≡ get_or letters letter false) → letters_at p marks ≡ letters
letters_at-are p marks letters n h = sym (fill_by_all (λ k. is_at p (get_or marks k None)) letters 26 false n (λ k b. sym (h k b)))

get_or-with_line : (at letter : ℕ) (letters : List Bool) (marks : List (Option ℕ)) → letter < 26 →
    get_or (with_line at letters marks) letter None ≡ opened at (get_or letters letter false) (get_or marks letter None)
get_or-with_line at letter letters marks h = get_or-map-range_with_len (λ k. opened at (get_or letters k false) (get_or marks k None)) 0 26 letter letter None h (omega arith)

pub get_or-without_line : (at letter : ℕ) (marks : List (Option ℕ)) → letter < 26 →
    get_or (without_line at marks) letter None ≡ closed at (get_or marks letter None)
get_or-without_line at letter marks h = get_or-map-range_with_len (λ k. closed at (get_or marks k None)) 0 26 letter letter None h (omega arith)

-- the letters of a line that comes in have no place so far
abbrev pub HaveNoPlace : List Bool → List (Option ℕ) → Type 0
HaveNoPlace letters marks = (letter : ℕ) → letter < 26 → get_or letters letter false ≡ true → get_or marks letter None ≡ None

-- a line came in
pub lettered-insert : (marks : List (Option ℕ)) (at : ℕ) (lines : List Line) (new : Line) (letters : List Bool) → at ≤ length lines → length letters ≡ 26 → HaveNoPlace letters marks →
    lettered (with_line at letters marks) 0 (insert lines at new) ≡ insert (lettered marks 0 lines) at (record new { letters = letters })
lettered-insert marks at lines new letters h n none =
    let after = with_line at letters marks in
    let line : Line = record new { letters = letters } in
    let long : length (lettered marks 0 lines) ≡ length lines = length-lettered marks 0 lines in
    let more : length (insert lines at new) ≡ length lines + 1 = length-insert lines at new h in
    let within : at ≤ length (lettered marks 0 lines) = omega arith in
    same_lists (lettered after 0 (insert lines at new)) (insert (lettered marks 0 lines) at line)
    (length-lettered after 0 (insert lines at new) ∙ more ∙ sym (length-insert (lettered marks 0 lines) at line within ∙ ap (λ t. t + 1) long))
    (λ k d b.
    let inside : k < length (insert lines at new) = omega (arith, length-lettered after 0 (insert lines at new)) in
    get_or-lettered after 0 k k (insert lines at new) d inside (omega arith)
    ∙ ⊎_elim
    (λ e.
    ap (λ t. line_with after k t) (ap (λ i. get_or (insert lines at new) i d) e ∙ get_or-insert_at lines at new d h)
    ∙ ap (λ t. record new { letters = t }) (letters_at-are k after letters n (λ letter l.
    ap (is_at k) (get_or-with_line at letter letters marks l)
    ∙ ap (λ i. is_at i (opened at (get_or letters letter false) (get_or marks letter None))) e
    ∙ opened-there at (get_or letters letter false) (get_or marks letter None)))
    ∙ sym (ap (λ i. get_or (insert (lettered marks 0 lines) at line) i d) e ∙ get_or-insert_at (lettered marks 0 lines) at line d within))
    (⊎_elim
    (λ l.
    ap (λ t. line_with after k t) (get_or-insert_below lines at new d k l h)
    ∙ ap (λ t. record (get_or lines k d) { letters = t }) (letters_at-same k k after marks (λ letter f.
    ap (is_at k) (get_or-with_line at letter letters marks f)
    ∙ opened-below at k (get_or letters letter false) (get_or marks letter None) l (none letter f)))
    ∙ sym (get_or-insert_below (lettered marks 0 lines) at line d k l within ∙ get_or-lettered marks 0 k k lines d (omega arith) (omega arith)))
    (λ l.
    let i = k - 1 in
    let e : k ≡ i + 1 = omega arith in
    let later : at ≤ i = omega arith in
    ap (λ t. line_with after k t) (ap (λ j. get_or (insert lines at new) j d) e ∙ get_or-insert_above lines at new d i later h)
    ∙ ap (λ t. record (get_or lines i d) { letters = t }) (letters_at-same k i after marks (λ letter f.
    ap (is_at k) (get_or-with_line at letter letters marks f)
    ∙ ap (λ j. is_at j (opened at (get_or letters letter false) (get_or marks letter None))) e
    ∙ opened-above at i (get_or letters letter false) (get_or marks letter None) later (none letter f)))
    ∙ sym (ap (λ j. get_or (insert (lettered marks 0 lines) at line) j d) e ∙ get_or-insert_above (lettered marks 0 lines) at line d i later within
    ∙ get_or-lettered marks 0 i i lines d (omega arith) (omega arith)))
    )
    (cases_order k at))

-- a line went out
pub lettered-remove : (marks : List (Option ℕ)) (at : ℕ) (lines : List Line) → at < length lines →
    lettered (without_line at marks) 0 (remove lines at) ≡ remove (lettered marks 0 lines) at
lettered-remove marks at lines h =
    let after = without_line at marks in
    let long : length (lettered marks 0 lines) ≡ length lines = length-lettered marks 0 lines in
    let fewer : length (remove lines at) + 1 ≡ length lines = length-remove lines at h in
    let within : at < length (lettered marks 0 lines) = omega arith in
    same_lists (lettered after 0 (remove lines at)) (remove (lettered marks 0 lines) at)
    (omega (arith, length-lettered after 0 (remove lines at), fewer, long, length-remove (lettered marks 0 lines) at within))
    (λ k d b.
    let inside : k < length (remove lines at) = omega (arith, length-lettered after 0 (remove lines at)) in
    get_or-lettered after 0 k k (remove lines at) d inside (omega arith)
    ∙ ⊎_elim
    (λ l.
    ap (λ t. line_with after k t) (get_or-remove_below lines at d k l h)
    ∙ ap (λ t. record (get_or lines k d) { letters = t }) (letters_at-same k k after marks (λ letter f.
    ap (is_at k) (get_or-without_line at letter marks f) ∙ closed-below at k (get_or marks letter None) l))
    ∙ sym (get_or-remove_below (lettered marks 0 lines) at d k l within ∙ get_or-lettered marks 0 k k lines d (omega arith) (omega arith)))
    (λ l.
    ap (λ t. line_with after k t) (get_or-remove_above lines at d k l h)
    ∙ ap (λ t. record (get_or lines (k + 1) d) { letters = t }) (letters_at-same k (k + 1) after marks (λ letter f.
    ap (is_at k) (get_or-without_line at letter marks f) ∙ closed-above at k (get_or marks letter None) l))
    ∙ sym (get_or-remove_above (lettered marks 0 lines) at d k l within ∙ get_or-lettered marks 0 (k + 1) (k + 1) lines d (omega arith) (omega arith)))
    (cases_lt k at))

-- another place, and a letter's own
set-letter : (marks : List (Option ℕ)) (i j letter : ℕ) → letter < length marks → length marks ≡ 26 →
    letters_at j (set marks letter (Some i)) ≡ set (letters_at j marks) letter (is_at j (Some i))
set-letter marks i j letter h n =
    let before = letters_at j marks in
    let count : length before ≡ 26 = length-map-range_with_len (λ k. is_at j (get_or marks k None)) 0 26 in
    letters_at-are j (set marks letter (Some i)) (set before letter (is_at j (Some i))) (length-set before letter (is_at j (Some i)) ∙ count)
    (λ k b. ⊎_elim
    (λ e. ap (λ t. is_at j (get_or (set marks letter (Some i)) t None)) e ∙ ap (is_at j) (get_or-set_same marks letter (Some i) None h)
    ∙ sym (ap (λ t. get_or (set before letter (is_at j (Some i))) t false) e ∙ get_or-set_same before letter (is_at j (Some i)) false (omega arith)))
    (λ e. ap (is_at j) (get_or-set_other marks letter k (Some i) None e)
    ∙ sym (get_or-set_other before letter k (is_at j (Some i)) false e ∙ letter-there j k marks b))
    (cases_eq k letter))

-- a letter's line lies before those that are told
set-after : (marks : List (Option ℕ)) (i place letter : ℕ) (lines : List Line) → letter < length marks → length marks ≡ 26 → i < place →
    lettered (set marks letter (Some i)) place lines ≡ map (with_letter letter false) (lettered marks place lines)
set-after marks i place letter [] h n l = refl
set-after marks i place letter (line ∷ lines) h n l =
    ap (λ t. record line { letters = t } ∷ lettered (set marks letter (Some i)) (suc place) lines)
    (set-letter marks i place letter h n ∙ ap (set (letters_at place marks) letter) (not_at place i (omega arith)))
    ∙ ap (λ t. with_letter letter false (line_with marks place line) ∷ t) (set-after marks i (suc place) letter lines h n (omega arith))

-- a line was marked
pub lettered-set : (marks : List (Option ℕ)) (place i at letter : ℕ) (lines : List Line) → letter < length marks → length marks ≡ 26 → place + i ≡ at → i < length lines →
    lettered (set marks letter (Some at)) place lines ≡ marked_at i letter (lettered marks place lines)
lettered-set marks place i at letter [] h n e l = absurd (omega arith)
lettered-set marks place zero at letter (line ∷ lines) h n e l =
    let here : at ≡ place = omega arith in
    ap (λ t. lettered (set marks letter (Some t)) place (line ∷ lines)) here
    ∙ ap (λ t. record line { letters = t } ∷ lettered (set marks letter (Some place)) (suc place) lines)
    (set-letter marks place place letter h n ∙ ap (set (letters_at place marks) letter) (is_there place) ∙ sym (set-set (letters_at place marks) letter false true))
    ∙ ap (λ t. with_letter letter true (with_letter letter false (line_with marks place line)) ∷ t) (set-after marks place (suc place) letter lines h n (omega arith))
lettered-set marks place (suc i) at letter (line ∷ lines) h n e l =
    ap (λ t. record line { letters = t } ∷ lettered (set marks letter (Some at)) (suc place) lines)
    (set-letter marks at place letter h n ∙ ap (set (letters_at place marks) letter) (not_at place at (omega arith)))
    ∙ ap (λ t. with_letter letter false (line_with marks place line) ∷ t) (lettered-set marks (suc place) i at letter lines h n (omega arith) (omega arith))

-- the first line that has the letter, or how many lines there are
place-found : (marks : List (Option ℕ)) (place i at letter : ℕ) (lines : List Line) → letter < 26 → place + i ≡ at → i < length lines → get_or marks letter None ≡ Some at →
    position_or_len (has_letter letter) (lettered marks place lines) ≡ i
place-found marks place i at letter [] h e l o = absurd (omega arith)
place-found marks place zero at letter (line ∷ lines) h e l o =
    let here : at ≡ place = omega arith in
    let has : has_letter letter (line_with marks place line) ≡ true =
    letter-there place letter marks h ∙ ap (is_at place) (o ∙ ap (λ t. Some t) here) ∙ is_there place in
    ap (λ b. cond (not b) (1 + position_or_len (has_letter letter) (lettered marks (suc place) lines)) 0) has
place-found marks place (suc i) at letter (line ∷ lines) h e l o =
    let hasnt : has_letter letter (line_with marks place line) ≡ false =
    letter-there place letter marks h ∙ ap (is_at place) o ∙ not_at place at (omega arith) in
    ap (λ b. cond (not b) (1 + position_or_len (has_letter letter) (lettered marks (suc place) lines)) 0) hasnt
    ∙ ap (λ t. 1 + t) (place-found marks (suc place) i at letter lines h (omega arith) (omega arith) o) ∙ omega arith

none-found : (marks : List (Option ℕ)) (place letter : ℕ) (lines : List Line) → letter < 26 → get_or marks letter None ≡ None →
    position_or_len (has_letter letter) (lettered marks place lines) ≡ length (lettered marks place lines)
none-found marks place letter [] h o = refl
none-found marks place letter (line ∷ lines) h o =
    let hasnt : has_letter letter (line_with marks place line) ≡ false = letter-there place letter marks h ∙ ap (is_at place) o in
    ap (λ b. cond (not b) (1 + position_or_len (has_letter letter) (lettered marks (suc place) lines)) 0) hasnt
    ∙ ap (λ t. 1 + t) (none-found marks (suc place) letter lines h o) ∙ omega arith

found : (marks : List (Option ℕ)) (letter : ℕ) (lines : List Line) (o : Option ℕ) → letter < 26 → ((place : ℕ) → o ≡ Some place → place < length lines) →
    get_or marks letter None ≡ o → marked_place letter (lettered marks 0 lines) ≡ o
found marks letter lines None h below e =
    let n = position_or_len (has_letter letter) (lettered marks 0 lines) in
    cond-false (nat_lt n (length (lettered marks 0 lines))) (Some n) None (le-ltb n (length (lettered marks 0 lines)) (omega (arith, none-found marks 0 letter lines h e)))
found marks letter lines (Some p) h below e =
    let n = position_or_len (has_letter letter) (lettered marks 0 lines) in
    let is : n ≡ p = place-found marks 0 p p letter lines h (omega arith) (below p refl) e in
    cond-true (nat_lt n (length (lettered marks 0 lines))) (Some n) None (lt-ltb n (length (lettered marks 0 lines)) (omega (arith, length-lettered marks 0 lines, below p refl)))
    ∙ ap (λ t. Some t) is

-- the place of the line that a letter marks is the letter's
pub marked_place-lettered : (marks : List (Option ℕ)) (letter : ℕ) (lines : List Line) → letter < 26 → AllBelow (length lines) marks →
    marked_place letter (lettered marks 0 lines) ≡ get_or marks letter None
marked_place-lettered marks letter lines h below = found marks letter lines (get_or marks letter None) h (below letter) refl

-- a line that shares no letter with others has letters without a place
pub without_places : (marks : List (Option ℕ)) (lines : List Line) (line : Line) → AllBelow (length lines) marks → SharesNoLetter line (lettered marks 0 lines) → HaveNoPlace line.letters marks
without_places marks lines line below shares letter h has = sym (marked_place-lettered marks letter lines h below) ∙ shares letter has

-- a place that is given to a letter is below a count, as the others are
pub set-below : (marks : List (Option ℕ)) (count i at : ℕ) → AllBelow count marks → at < count → AllBelow count (set marks i (Some at))
set-below marks count i at below h letter place e = ⊎_elim
    (λ same. ⊎_elim
    (λ l. let f : ◌≡◌ {A = Option ℕ} (Some at) (Some place) = sym (ap (λ t. get_or (set marks i (Some at)) t None) same ∙ get_or-set_same marks i (Some at) None l) ∙ e in
    let g : at ≡ place = some_same at place f in omega arith)
    (λ l. below letter place (ap (λ t. get_or t letter None) (sym (set_past marks i (Some at) l)) ∙ e))
    (cases_lt i (length marks)))
    (λ other. below letter place (sym (get_or-set_other marks i letter (Some at) None other) ∙ e))
    (cases_eq letter i)

-- no letter has a place yet
pub none_at : (n letter : ℕ) → get_or {A = Option ℕ} (replicate n None) letter None ≡ None
none_at zero letter = refl
none_at (suc n) zero = refl
none_at (suc n) (suc letter) = none_at n letter

pub none-below : (count n : ℕ) → AllBelow count (replicate n None)
none-below count n letter place e = let f : ◌≡◌ {A = Option ℕ} None (Some place) = sym (none_at n letter) ∙ e in absurd cc

-- after a line has come in, a place is below the greater count
below-opened : (count at : ℕ) (b : Bool) (o : Option ℕ) → at ≤ count → ((place : ℕ) → o ≡ Some place → place < count) → (place : ℕ) → opened at b o ≡ Some place → place < count + 1
below-opened count at true o h below place e = let f : at ≡ place = some_same at place e in omega arith
below-opened count at false None h below place e = absurd cc
below-opened count at false (Some p) h below place e = ⊎_elim
    (λ l. let f : p ≡ place = some_same p place (sym (opened-low at p l) ∙ e) in omega (arith, below p refl))
    (λ l. let f : p + 1 ≡ place = some_same (p + 1) place (sym (opened-high at p l) ∙ e) in omega (arith, below p refl))
    (cases_lt p at)

pub with_line-below : (count more at : ℕ) (letters : List Bool) (marks : List (Option ℕ)) → at ≤ count → more ≡ count + 1 → AllBelow count marks → AllBelow more (with_line at letters marks)
with_line-below count more at letters marks h m below letter place e = ⊎_elim
    (λ l. rw m (below-opened count at (get_or letters letter false) (get_or marks letter None) h (below letter) place (sym (get_or-with_line at letter letters marks l) ∙ e)))
    (λ l. let f : ◌≡◌ {A = Option ℕ} None (Some place) =
    sym (get_or_past (with_line at letters marks) letter None (omega (arith, length-map-range_with_len (λ k. opened at (get_or letters k false) (get_or marks k None)) 0 26))) ∙ e in absurd cc)
    (cases_lt letter 26)

-- after a line has gone out, a place is below the lesser count
below-closed : (count at : ℕ) (o : Option ℕ) → at ≤ count → ((place : ℕ) → o ≡ Some place → place < count + 1) → (place : ℕ) → closed at o ≡ Some place → place < count
below-closed count at None h below place e = absurd cc
below-closed count at (Some p) h below place e = ⊎_elim
    (λ l. let f : p ≡ place = some_same p place (sym (closed-low at p l) ∙ e) in omega arith)
    (λ l. ⊎_elim
    (λ same. let f : ◌≡◌ {A = Option ℕ} None (Some place) = sym (ap (λ n. closed at (Some n)) same ∙ closed-there at) ∙ e in absurd cc)
    (λ other. let f : p - 1 ≡ place = some_same (p - 1) place (sym (closed-high at p (omega arith)) ∙ e) in omega (arith, below p refl))
    (cases_eq p at))
    (cases_lt p at)

pub without_line-below : (count fewer at : ℕ) (marks : List (Option ℕ)) → at < count → fewer + 1 ≡ count → AllBelow count marks → AllBelow fewer (without_line at marks)
without_line-below count fewer at marks h m below letter place e = ⊎_elim
    (λ l. below-closed fewer at (get_or marks letter None) (omega arith) (λ p f. rw m (below letter p f)) place (sym (get_or-without_line at letter marks l) ∙ e))
    (λ l. let f : ◌≡◌ {A = Option ℕ} None (Some place) =
    sym (get_or_past (without_line at marks) letter None (omega (arith, length-map-range_with_len (λ k. closed at (get_or marks k None)) 0 26))) ∙ e in absurd cc)
    (cases_lt letter 26)

-- a line of those that have letters
pub lettered-at : (marks : List (Option ℕ)) (lines : List Line) (i : ℕ) (line : Line) → i < length lines → line ≡ get_or lines i line →
    get_or (lettered marks 0 lines) i (plain_line []) ≡ record line { letters = letters_at i marks }
lettered-at marks lines i line h e =
    get_or-lettered marks 0 i i lines (plain_line []) h (omega arith)
    ∙ ap (line_with marks i) (get_or_default lines i (plain_line []) line h ∙ sym e)

-- the places of the first lines
below-some : (count : ℕ) (o : Option ℕ) (place : ℕ) → below count o ≡ Some place → place < count
below-some count None place e = absurd cc
below-some count (Some other) place e = ⊎_elim
    (λ l. let f : place ≡ other = some_same place other (sym e ∙ cond-true (nat_lt other count) (Some other) None (lt-ltb other count l)) in omega arith)
    (λ l. let f : ◌≡◌ {A = Option ℕ} None (Some place) = sym (cond-false (nat_lt other count) (Some other) None (le-ltb other count l)) ∙ e in absurd cc)
    (cases_lt other count)

get_or-places_below : (count letter : ℕ) (marks : List (Option ℕ)) → letter < 26 → get_or (places_below count marks) letter None ≡ below count (get_or marks letter None)
get_or-places_below count letter marks h = get_or-map-range_with_len (λ k. below count (get_or marks k None)) 0 26 letter letter None h (omega arith)

pub places-below : (count : ℕ) (marks : List (Option ℕ)) → AllBelow count (places_below count marks)
places-below count marks letter place e = ⊎_elim
    (λ l. below-some count (get_or marks letter None) place (sym (get_or-places_below count letter marks l) ∙ e))
    (λ l. let f : ◌≡◌ {A = Option ℕ} None (Some place) =
    sym (get_or_past (places_below count marks) letter None (omega (arith, length-map-range_with_len (λ k. below count (get_or marks k None)) 0 26))) ∙ e in absurd cc)
    (cases_lt letter 26)

at-below : (count place : ℕ) (o : Option ℕ) → place < count → is_at place (below count o) ≡ is_at place o
at-below count place None h = refl
at-below count place (Some other) h = ⊎_elim
    (λ l. ap (is_at place) (cond-true (nat_lt other count) (Some other) None (lt-ltb other count l)))
    (λ l. ap (is_at place) (cond-false (nat_lt other count) (Some other) None (le-ltb other count l)) ∙ sym (not_at place other (omega arith)))
    (cases_lt other count)

-- are all that count for so many
pub lettered-below : (count : ℕ) (marks : List (Option ℕ)) (place : ℕ) (lines : List Line) → place + length lines ≤ count →
    lettered (places_below count marks) place lines ≡ lettered marks place lines
lettered-below count marks place [] h = refl
lettered-below count marks place (line ∷ lines) h =
    ap (λ t. record line { letters = t } ∷ lettered (places_below count marks) (suc place) lines)
    (letters_at-same place place (places_below count marks) marks (λ letter l.
    ap (is_at place) (get_or-places_below count letter marks l) ∙ at-below count place (get_or marks letter None) (omega arith)))
    ∙ ap (λ t. line_with marks place line ∷ t) (lettered-below count marks (suc place) lines (omega arith))
