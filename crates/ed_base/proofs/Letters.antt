-- The letters of lines where one is set, and told of the parts of a list.
use Rattle.std.proofs.Common.{◌≡◌, ◌≢◌, ℕ, zero, suc, ◌+◌, ◌<◌, ◌≤◌, List, [], ◌∷◌, ◌++◌, Bool, true, false, cond, length, map, get_or, set, replicate, count_by, refl, ap, ◌∙◌, sym, arith, get_or-set_same, get_or-set_other, length-set, ⊎_elim}
use Rattle.std.proofs.lemmas.Bool.{cases_lt, cases_eq, cases_Bool, cond-true}
use Rattle.std.proofs.lemmas.List.{get_or-map, length-map, get_or_past, set_past}
use Rattle.std.proofs.lemmas.List.Sums.{sum_by-cons}
use Rattle.ed_base.specs.Buffer.{Line, plain_line, no_letters, has_letter, with_letter, marked_at, AtMostOnce, KnowLetters}

-- no letter marks a line without letters
pub none_marked : (n letter : ℕ) → get_or (replicate n false) letter false ≡ false
none_marked zero letter = refl
none_marked (suc n) zero = refl
none_marked (suc n) (suc letter) = none_marked n letter

-- a letter that is taken off a line doesn't mark it
taken_off : (letter : ℕ) (letters : List Bool) → get_or (set letters letter false) letter false ≡ false
taken_off letter letters = ⊎_elim
    (λ l. get_or-set_same letters letter false false l)
    (λ l. ap (λ t. get_or t letter false) (set_past letters letter false l) ∙ get_or_past letters letter false l)
    (cases_lt letter (length letters))

-- no letter marks what lies past the end
past-bare : (lines : List Line) (i letter : ℕ) → length lines ≤ i → has_letter letter (get_or lines i (plain_line [])) ≡ false
past-bare lines i letter h = ap (has_letter letter) (get_or_past lines i (plain_line []) h) ∙ none_marked 26 letter

-- the letter marks none of the others
others-bare : (lines : List Line) (i letter : ℕ) → has_letter letter (get_or (map (with_letter letter false) lines) i (plain_line [])) ≡ false
others-bare lines i letter = ⊎_elim
    (λ l. ap (has_letter letter) (get_or-map (with_letter letter false) lines i (plain_line []) (plain_line []) l)
    ∙ taken_off letter (get_or lines i (plain_line [])).letters)
    (λ l. past-bare (map (with_letter letter false) lines) i letter (omega (arith, length-map lines (with_letter letter false))))
    (cases_lt i (length lines))

-- so it marks the line at its place alone
marks-there : (place letter i : ℕ) (lines : List Line) → has_letter letter (get_or (marked_at place letter lines) i (plain_line [])) ≡ true → i ≡ place
marks-there place letter i lines h =
    let others = map (with_letter letter false) lines in
    ⊎_elim
    (λ e. e)
    (λ n. let f : false ≡ true = sym (others-bare lines i letter)
    ∙ ap (has_letter letter) (sym (get_or-set_other others place i (with_letter letter true (get_or others place (plain_line []))) (plain_line []) n)) ∙ h in absurd cc)
    (cases_eq i place)

-- another letter marks the lines that it marked
other-stays : (letter other : ℕ) (marks : Bool) (line : Line) → other ≢ letter → has_letter other (with_letter letter marks line) ≡ has_letter other line
other-stays letter other marks line n = get_or-set_other line.letters letter other marks false n

others-stay : (letter other i : ℕ) (lines : List Line) → other ≢ letter →
    has_letter other (get_or (map (with_letter letter false) lines) i (plain_line [])) ≡ has_letter other (get_or lines i (plain_line []))
others-stay letter other i lines n = ⊎_elim
    (λ l. ap (has_letter other) (get_or-map (with_letter letter false) lines i (plain_line []) (plain_line []) l)
    ∙ other-stays letter other false (get_or lines i (plain_line [])) n)
    (λ l. past-bare (map (with_letter letter false) lines) i other (omega (arith, length-map lines (with_letter letter false))) ∙ sym (past-bare lines i other l))
    (cases_lt i (length lines))

others-marked : (place letter other i : ℕ) (lines : List Line) → other ≢ letter →
    has_letter other (get_or (marked_at place letter lines) i (plain_line [])) ≡ has_letter other (get_or lines i (plain_line []))
others-marked place letter other i lines n =
    let others = map (with_letter letter false) lines in
    let line = with_letter letter true (get_or others place (plain_line [])) in
    ⊎_elim
    (λ e. ⊎_elim
    (λ l. ap (λ k. has_letter other (get_or (set others place line) k (plain_line []))) e
    ∙ ap (has_letter other) (get_or-set_same others place line (plain_line []) l)
    ∙ other-stays letter other true (get_or others place (plain_line [])) n
    ∙ ap (λ k. has_letter other (get_or others k (plain_line []))) (sym e)
    ∙ others-stay letter other i lines n)
    (λ l. ap (λ t. has_letter other (get_or t i (plain_line []))) (set_past others place line l) ∙ others-stay letter other i lines n)
    (cases_lt place (length others)))
    (λ ne. ap (has_letter other) (get_or-set_other others place i line (plain_line []) ne) ∙ others-stay letter other i lines n)
    (cases_eq i place)

-- a letter that is set leaves each letter on one line at most
pub marked_at-once : (place letter : ℕ) (lines : List Line) → AtMostOnce lines → AtMostOnce (marked_at place letter lines)
marked_at-once place letter lines once other i j h k = ⊎_elim
    (λ e.
    let here : i ≡ place = marks-there place letter i lines (ap (λ t. has_letter t (get_or (marked_at place letter lines) i (plain_line []))) (sym e) ∙ h) in
    let there : j ≡ place = marks-there place letter j lines (ap (λ t. has_letter t (get_or (marked_at place letter lines) j (plain_line []))) (sym e) ∙ k) in
    here ∙ sym there)
    (λ n. once other i j (sym (others-marked place letter other i lines n) ∙ h) (sym (others-marked place letter other j lines n) ∙ k))
    (cases_eq other letter)

-- and of each line all letters known
pub marked_at-known : (place letter : ℕ) (lines : List Line) → KnowLetters lines → KnowLetters (marked_at place letter lines)
marked_at-known place letter lines known i d h =
    let others = map (with_letter letter false) lines in
    let line = with_letter letter true (get_or others place (plain_line [])) in
    let same : length others ≡ length lines = length-map lines (with_letter letter false) in
    let long : length (marked_at place letter lines) ≡ length others = length-set others place line in
    let inside : i < length others = omega arith in
    let other : length (get_or others i d).letters ≡ 26 =
    ap (λ t. length t.letters) (get_or-map (with_letter letter false) lines i d d (omega arith))
    ∙ length-set (get_or lines i d).letters letter false ∙ known i d (omega arith) in
    ⊎_elim
    (λ e.
    let there : place < length others = omega arith in
    let default : get_or others place (plain_line []) ≡ get_or others i d =
    get_or-map (with_letter letter false) lines place d (plain_line []) (omega arith)
    ∙ ap (λ k. with_letter letter false (get_or lines k d)) (sym e)
    ∙ sym (get_or-map (with_letter letter false) lines i d d (omega arith)) in
    ap (λ k. length (get_or (set others place line) k d).letters) e
    ∙ ap (λ t. length t.letters) (get_or-set_same others place line d there)
    ∙ length-set (get_or others place (plain_line [])).letters letter true
    ∙ ap (λ t. length t.letters) default ∙ other)
    (λ n. ap (λ t. length t.letters) (get_or-set_other others place i line d n) ∙ other)
    (cases_eq i place)

-- whether a line counts
abbrev counts : (letter : ℕ) → Line → ℕ
counts letter line = cond (has_letter letter line) 1 0

-- a letter that marks a line is counted
counted : (letter i : ℕ) (lines : List Line) → has_letter letter (get_or lines i (plain_line [])) ≡ true → 1 ≤ count_by (has_letter letter) lines
counted letter i [] h = let f : false ≡ true = sym (none_marked 26 letter) ∙ h in absurd cc
counted letter zero (line ∷ lines) h =
    let one : counts letter line ≡ 1 = cond-true (has_letter letter line) 1 0 h in
    omega (arith, sum_by-cons (counts letter) line lines)
counted letter (suc i) (line ∷ lines) h = omega (arith, sum_by-cons (counts letter) line lines, counted letter i lines h)

-- a letter that marks none is counted nowhere
pub uncounted : (letter : ℕ) (lines : List Line) → ((i : ℕ) → has_letter letter (get_or lines i (plain_line [])) ≡ true → ⊥) → count_by (has_letter letter) lines ≡ 0
uncounted letter [] none = refl
uncounted letter (line ∷ lines) none = ⊎_elim
    (λ t. absurd (none 0 t))
    (λ f. let zero_here : counts letter line ≡ 0 = ap (λ b. cond b 1 0) f in
    omega (arith, sum_by-cons (counts letter) line lines, uncounted letter lines (λ i h. none (suc i) h)))
    (cases_Bool (has_letter letter line))

suc_same : (i j : ℕ) → suc i ≡ suc j → i ≡ j
suc_same i j h = omega arith

-- lines of which a letter marks one at most count at most one
pub once-counts : (lines : List Line) → AtMostOnce lines → (letter : ℕ) → count_by (has_letter letter) lines ≤ 1
once-counts [] once letter = omega arith
once-counts (line ∷ lines) once letter = ⊎_elim
    (λ t.
    let none : count_by (has_letter letter) lines ≡ 0 = uncounted letter lines (λ i h. let f : 0 ≡ suc i = once letter 0 (suc i) t h in absurd (omega arith)) in
    let one : counts letter line ≡ 1 = ap (λ b. cond b 1 0) t in
    omega (arith, sum_by-cons (counts letter) line lines))
    (λ f.
    let later = once-counts lines (λ other i j h k. suc_same i j (once other (suc i) (suc j) h k)) letter in
    let zero_here : counts letter line ≡ 0 = ap (λ b. cond b 1 0) f in
    omega (arith, sum_by-cons (counts letter) line lines))
    (cases_Bool (has_letter letter line))

-- and where each letter counts at most one, it marks one line at most
pub counts-once : (lines : List Line) → ((letter : ℕ) → count_by (has_letter letter) lines ≤ 1) → AtMostOnce lines
counts-once [] few letter i j h k = let f : false ≡ true = sym (none_marked 26 letter) ∙ h in absurd cc
counts-once (line ∷ lines) few letter zero zero h k = refl
counts-once (line ∷ lines) few letter zero (suc j) h k =
    let one : counts letter line ≡ 1 = ap (λ b. cond b 1 0) h in
    absurd (omega (arith, few letter, sum_by-cons (counts letter) line lines, counted letter j lines k))
counts-once (line ∷ lines) few letter (suc i) zero h k =
    let one : counts letter line ≡ 1 = ap (λ b. cond b 1 0) k in
    absurd (omega (arith, few letter, sum_by-cons (counts letter) line lines, counted letter i lines h))
counts-once (line ∷ lines) few letter (suc i) (suc j) h k =
    ap (λ n. suc n) (counts-once lines (λ other. omega (arith, few other, sum_by-cons (counts other) line lines)) letter i j h k)

-- plain lines have no letters, and all are known
pub plain-known : (texts : List (List ℕ)) → KnowLetters (map plain_line texts)
plain-known texts i d h = ap (λ t. length t.letters) (get_or-map plain_line texts i [] d (omega (arith, length-map texts plain_line)))

pub plain-uncounted : (texts : List (List ℕ)) (letter : ℕ) → count_by (has_letter letter) (map plain_line texts) ≡ 0
plain-uncounted texts letter = uncounted letter (map plain_line texts) (λ i h. ⊎_elim
    (λ l. let f : false ≡ true = sym (none_marked 26 letter) ∙ ap (has_letter letter) (sym (get_or-map plain_line texts i [] (plain_line []) l)) ∙ h in absurd cc)
    (λ l. let f : false ≡ true = sym (past-bare (map plain_line texts) i letter (omega (arith, length-map texts plain_line))) ∙ h in absurd cc)
    (cases_lt i (length texts)))
