-- The marks of a column in a row, taken up from the left.
use Rattle.std.proofs.Common.{◌≡◌, ℕ, zero, suc, ◌+◌, ◌-◌, ◌<◌, ◌≤◌, List, [], ◌∷◌, ◌++◌, length, drop, get_or, Option, Some, None, Bool, true, false, cond, leb, refl, ap, sym, ◌∙◌, subst, arith, append_assoc, append-nil}
use Rattle.std.proofs.Math.ListN.{drop_of_length-le}
use Rattle.std.proofs.lemmas.Bool.Decides.{nat_tests}
use Rattle.bre_parse.specs.declared.tree.Node.{Node}
use Rattle.bre_parse.specs.Tree.{tree_of, sequence_of}
use Rattle.std.proofs.lemmas.List.{get_or_read}
use Rattle.bre_parse.proofs.Sequences.{sequence_of-drop, sequence_of-all, tree_of-Sequence}
use Rattle.bre_match.specs.Parts.{Part, Nothing, Never, One, AtStart, AtEnd, Both, Maybe, Star, needed, up_to, written_out, part_of}
use Rattle.bre_match.specs.Columns.{less_of, peek, step}
use Rattle.bre_match.specs.declared.column.Asked.{Asked}
use Rattle.bre_match.specs.declared.column.Asked.TheVariants as kind
use Rattle.bre_match.specs.Marks.{asked_for, fill, past, marks_of, other_marks}
use Rattle.bre_match.specs.Ends.{columns}

pub mark_passed : (marks : List (Option ℕ)) (at : ℕ) → at < length marks → drop (at + 1) marks ≡ other_marks (drop at marks)
mark_passed [] at lt = absurd (omega arith)
mark_passed (m ∷ marks) zero lt = refl
mark_passed (m ∷ marks) (suc at) lt =
    ap (λ n. drop n (m ∷ marks)) (let e : suc at + 1 ≡ suc (at + 1) = omega arith in e) ∙ mark_passed marks at (omega arith)

pub no_mark_passed : (marks : List (Option ℕ)) (at : ℕ) → length marks ≤ at → drop at marks ≡ other_marks (drop at marks)
no_mark_passed marks at le =
    let e = drop_of_length-le marks le in e ∙ sym (ap other_marks e)

-- Several of a part, and the rest

abbrev some_of : ℕ → Part → Part
some_of n c = needed n c Nothing

pub needed_peek : (n : ℕ) (c rest : Part) (s : List ℕ) (x : ℕ) (ms : List (Option ℕ)) (w : Option ℕ) → peek (fill (needed n c rest) ms) s x w ≡ peek (fill rest (past (some_of n c) ms)) s x (peek (fill (some_of n c) ms) s x w)
needed_peek zero c rest s x ms w = refl
needed_peek (suc n) c rest s x ms w = needed_peek n c rest s x (past c ms) (peek (fill c ms) s x w)

pub needed_past : (n : ℕ) (c rest : Part) (ms : List (Option ℕ)) → past (needed n c rest) ms ≡ past rest (past (some_of n c) ms)
needed_past zero c rest ms = refl
needed_past (suc n) c rest ms = needed_past n c rest (past c ms)

pub needed_marks : (n : ℕ) (c rest : Part) (s : List ℕ) (x : ℕ) (ms : List (Option ℕ)) (w : Option ℕ) → marks_of (step (fill (needed n c rest) ms) s x w) ≡ marks_of (step (fill (some_of n c) ms) s x w) ++ marks_of (step (fill rest (past (some_of n c) ms)) s x (peek (fill (some_of n c) ms) s x w))
needed_marks zero c rest s x ms w = refl
needed_marks (suc n) c rest s x ms w =
    ap (λ l. marks_of (step (fill c ms) s x w) ++ l) (needed_marks n c rest s x (past c ms) (peek (fill c ms) s x w))
    ∙ sym (append_assoc (marks_of (step (fill c ms) s x w)) (marks_of (step (fill (some_of n c) (past c ms)) s x (peek (fill c ms) s x w))) _)

-- the least of three
less_assoc : (a b c : Option ℕ) → less_of a (less_of b c) ≡ less_of (less_of a b) c
less_assoc None b c = refl
less_assoc (Some x) None c = refl
less_assoc (Some x) (Some y) None = by_cases (leb x y)
  where
    by_cases : (b : Bool) → cond b (Some x) (Some y) ≡ less_of (cond b (Some x) (Some y)) None
    by_cases true = refl
    by_cases false = refl
less_assoc (Some x) (Some y) (Some z) = by_cases (leb x y) (leb y z) refl refl
  where
    by_cases : (a b : Bool) → leb x y ≡ a → leb y z ≡ b → less_of (Some x) (cond b (Some y) (Some z)) ≡ less_of (cond a (Some x) (Some y)) (Some z)
    by_cases true true e f = rw e (let g : leb x z ≡ true = grind (arith, nat_tests) in rw g refl)
    by_cases true false e f = refl
    by_cases false true e f = rw (e, f) refl
    by_cases false false e f =
        let g : leb x z ≡ false = grind (arith, nat_tests) in rw (g, f) refl

-- One turn

pub record Looked (t left : Part) (s : List ℕ) (x : ℕ) (ms now : List (Option ℕ)) (w v : Option ℕ) : Type 0 where
  pub weight : peek (fill left now) s x v ≡ peek (fill t ms) s x w
  pub at : past left now ≡ past t ms

pub look_on : (t a left : Part) (s : List ℕ) (x : ℕ) (ms now next : List (Option ℕ)) (w v u : Option ℕ) → Looked t (Both a left) s x ms now w v → u ≡ peek (fill a now) s x v → next ≡ past a now → Looked t left s x ms next w u
look_on t a left s x ms now next w v u h e f = record {
  weight = ap (λ z. peek (fill left next) s x z) e ∙ ap (λ z. peek (fill left z) s x (peek (fill a now) s x v)) f ∙ h.weight;
  at = ap (λ z. past left z) f ∙ h.at;
}

pub same_left : (t left other : Part) (s : List ℕ) (x : ℕ) (ms now : List (Option ℕ)) (w v : Option ℕ) → left ≡ other → Looked t left s x ms now w v → Looked t other s x ms now w v
same_left t left other s x ms now w v e h = subst (λ (p : Part). Looked t p s x ms now w v) e h

pub turn_left : (n k : ℕ) (c rest : Part) → k < n → needed (n - k) c rest ≡ Both c (needed (n - (k + 1)) c rest)
turn_left n k c rest lt = ap (λ i. needed i c rest) (let e : n - k ≡ suc (n - (k + 1)) = omega arith in e)

pub more_left : (n k : ℕ) (c : Part) → k < n → up_to (n - k) c ≡ Maybe (Both c (up_to (n - (k + 1)) c))
more_left n k c lt = ap (λ i. up_to i c) (let e : n - k ≡ suc (n - (k + 1)) = omega arith in e)

pub item_left : (items : List Node) (i : ℕ) (item : Node) → i < length items → item ≡ get_or items i item → part_of (sequence_of (drop i items)) ≡ Both (part_of (tree_of item)) (part_of (sequence_of (drop (i + 1) items)))
item_left items i item lt e = ap part_of (sequence_of-drop items i item lt e)

pub none_left_of : (items : List Node) (i : ℕ) → length items ≤ i → part_of (sequence_of (drop i items)) ≡ Nothing
none_left_of items i le = ap part_of (sequence_of-all items i le)

-- The same for turns that are not needed, with the least weight so far
pub record Leads (t left : Part) (s : List ℕ) (x : ℕ) (ms now : List (Option ℕ)) (w v least : Option ℕ) : Type 0 where
  pub weight : less_of least (peek (fill left now) s x v) ≡ peek (fill t ms) s x w
  pub at : past left now ≡ past t ms

pub lead_on : (t a left : Part) (s : List ℕ) (x : ℕ) (ms now next : List (Option ℕ)) (w v u least new : Option ℕ) → Leads t (Maybe (Both a left)) s x ms now w v least → u ≡ peek (fill a now) s x v → next ≡ past a now → new ≡ less_of least v → Leads t left s x ms next w u new
lead_on t a left s x ms now next w v u least new h e f g = record {
  weight =
      ap (λ z. less_of z (peek (fill left next) s x u)) g
      ∙ ap (λ z. less_of (less_of least v) (peek (fill left next) s x z)) e
      ∙ ap (λ z. less_of (less_of least v) (peek (fill left z) s x (peek (fill a now) s x v))) f
      ∙ sym (less_assoc least v (peek (fill left (past a now)) s x (peek (fill a now) s x v)))
      ∙ h.weight;
  at = ap (λ z. past left z) f ∙ h.at;
}

pub lead_left : (t left other : Part) (s : List ℕ) (x : ℕ) (ms now : List (Option ℕ)) (w v least : Option ℕ) → left ≡ other → Leads t left s x ms now w v least → Leads t other s x ms now w v least
lead_left t left other s x ms now w v least e h = subst (λ (p : Part). Leads t p s x ms now w v least) e h

-- The marks of the next column so far, and those that the rest adds, if they are asked for

asked_append : (asked : Asked) (xs ys : List (Option ℕ)) → asked_for asked (xs ++ ys) ≡ asked_for asked xs ++ asked_for asked ys
asked_append kind.Weight xs ys = refl
asked_append kind.Marks xs ys = refl

abbrev pub marks_put : Asked → Part → List ℕ → ℕ → Option ℕ → List (Option ℕ)
marks_put asked t s x w = asked_for asked (marks_of (step t s x w))

pub record Puts (asked : Asked) (t left : Part) (s : List ℕ) (x : ℕ) (ms now : List (Option ℕ)) (w v : Option ℕ) (old out : List (Option ℕ)) : Type 0 where
  pub marks : out ++ marks_put asked (fill left now) s x v ≡ old ++ marks_put asked (fill t ms) s x w

pub put_on : (asked : Asked) (t a left : Part) (s : List ℕ) (x : ℕ) (ms now next : List (Option ℕ)) (w v u : Option ℕ) (old out new : List (Option ℕ)) → Puts asked t (Both a left) s x ms now w v old out → u ≡ peek (fill a now) s x v → next ≡ past a now → new ≡ out ++ marks_put asked (fill a now) s x v → Puts asked t left s x ms next w u old new
put_on asked t a left s x ms now next w v u old out new h e f g = record {
  marks =
      ap (λ z. z ++ marks_put asked (fill left next) s x u) g
      ∙ ap (λ z. (out ++ marks_put asked (fill a now) s x v) ++ marks_put asked (fill left next) s x z) e
      ∙ ap (λ z. (out ++ marks_put asked (fill a now) s x v) ++ marks_put asked (fill left z) s x (peek (fill a now) s x v)) f
      ∙ append_assoc out (marks_put asked (fill a now) s x v) (marks_put asked (fill left (past a now)) s x (peek (fill a now) s x v))
      ∙ ap (λ z. out ++ z) (sym (asked_append asked (marks_of (step (fill a now) s x v)) (marks_of (step (fill left (past a now)) s x (peek (fill a now) s x v)))))
      ∙ h.marks;
}

pub put_left : (asked : Asked) (t left other : Part) (s : List ℕ) (x : ℕ) (ms now : List (Option ℕ)) (w v : Option ℕ) (old out : List (Option ℕ)) → left ≡ other → Puts asked t left s x ms now w v old out → Puts asked t other s x ms now w v old out
put_left asked t left other s x ms now w v old out e h =
    subst (λ (p : Part). Puts asked t p s x ms now w v old out) e h

pub put_maybe : (asked : Asked) (t left : Part) (s : List ℕ) (x : ℕ) (ms now : List (Option ℕ)) (w v : Option ℕ) (old out : List (Option ℕ)) → Puts asked t (Maybe left) s x ms now w v old out → Puts asked t left s x ms now w v old out
put_maybe asked t left s x ms now w v old out h = record { marks = h.marks }

needed_put : (asked : Asked) (n : ℕ) (c rest : Part) (s : List ℕ) (x : ℕ) (ms : List (Option ℕ)) (w : Option ℕ) → marks_put asked (fill (needed n c rest) ms) s x w ≡ marks_put asked (fill (some_of n c) ms) s x w ++ marks_put asked (fill rest (past (some_of n c) ms)) s x (peek (fill (some_of n c) ms) s x w)
needed_put asked n c rest s x ms w =
    ap (asked_for asked) (needed_marks n c rest s x ms w)
    ∙ asked_append asked (marks_of (step (fill (some_of n c) ms) s x w)) (marks_of (step (fill rest (past (some_of n c) ms)) s x (peek (fill (some_of n c) ms) s x w)))

-- A whole column

fill_over : (t : Part) (s : List ℕ) (x : ℕ) (w : Option ℕ) (ms : List (Option ℕ)) → (fill (step t s x w) ms ≡ fill t ms) × (past (step t s x w) ms ≡ past t ms)
fill_over Nothing s x w ms = (refl, refl)
fill_over Never s x w ms = (refl, refl)
fill_over (One n r m) s x w ms = (refl, refl)
fill_over AtStart s x w ms = (refl, refl)
fill_over AtEnd s x w ms = (refl, refl)
fill_over (Both a b) s x w ms =
    let i = fill_over a s x w ms in
    let j = fill_over b s x (peek a s x w) (past a ms) in (
      ap (λ p. Both p (fill (step b s x (peek a s x w)) (past (step a s x w) ms))) i.0
          ∙ ap (λ l. Both (fill a ms) (fill (step b s x (peek a s x w)) l)) i.1
          ∙ ap (λ p. Both (fill a ms) p) j.0,
      ap (λ l. past (step b s x (peek a s x w)) l) i.1 ∙ j.1,
    )
fill_over (Maybe a) s x w ms = let i = fill_over a s x w ms in (ap Maybe i.0, i.1)
fill_over (Star a) s x w ms =
    let i = fill_over a s x (less_of w (peek a s x w)) ms in (ap Star i.0, i.1)

refill : (t : Part) (ms : List (Option ℕ)) → (fill t (marks_of t ++ ms) ≡ t) × (past t (marks_of t ++ ms) ≡ ms)
refill Nothing ms = (refl, refl)
refill Never ms = (refl, refl)
refill (One n r m) ms = (refl, refl)
refill AtStart ms = (refl, refl)
refill AtEnd ms = (refl, refl)
refill (Both a b) ms =
    let e : (marks_of a ++ marks_of b) ++ ms ≡ marks_of a ++ (marks_of b ++ ms) = append_assoc (marks_of a) (marks_of b) ms in
    let i = refill a (marks_of b ++ ms) in
    let j = refill b ms in (
      ap (λ l. fill (Both a b) l) e ∙ ap (λ p. Both p (fill b (past a (marks_of a ++ (marks_of b ++ ms))))) i.0 ∙ ap (λ l. Both a (fill b l)) i.1 ∙ ap (λ p. Both a p) j.0,
      ap (λ l. past (Both a b) l) e ∙ ap (λ l. past b l) i.1 ∙ j.1,
    )
refill (Maybe a) ms = let i = refill a ms in (ap Maybe i.0, i.1)
refill (Star a) ms = let i = refill a ms in (ap Star i.0, i.1)

fill_column : (t : Part) (s : List ℕ) (from : ℕ) (entry : ℕ → Option ℕ) (n : ℕ) (ms : List (Option ℕ)) → fill (columns t s from entry n) ms ≡ fill t ms
fill_column t s from entry zero ms = refl
fill_column t s from entry (suc n) ms =
    (fill_over (columns t s from entry n) s (from + n) (entry (from + n)) ms).0 ∙ fill_column t s from entry n ms

-- the row of a column gives that column
pub column_of_row : (t : Part) (s : List ℕ) (from : ℕ) (entry : ℕ → Option ℕ) (n : ℕ) (ms : List (Option ℕ)) → ms ≡ marks_of (columns t s from entry n) → fill t ms ≡ columns t s from entry n
column_of_row t s from entry n ms e =
    sym (fill_column t s from entry n ms)
    ∙ ap (λ l. fill (columns t s from entry n) l) (e ∙ sym (append-nil (marks_of (columns t s from entry n))))
    ∙ (refill (columns t s from entry n) []).0

-- A repeat, from its needed turns and the others

pub star_weight : (l : ℕ) (most : Option ℕ) (c : Part) (s : List ℕ) (x : ℕ) (ms now : List (Option ℕ)) (w begun turn new : Option ℕ) → most ≡ None → begun ≡ peek (fill (needed l c Nothing) ms) s x w → now ≡ past (needed l c Nothing) ms → turn ≡ peek (fill c now) s x begun → new ≡ less_of begun turn → new ≡ peek (fill (written_out l most c) ms) s x w
star_weight l most c s x ms now w begun turn new m b n t e =
    e
    ∙ ap (λ z. less_of begun z) (t ∙ ap (λ z. peek (fill c z) s x begun) n)
    ∙ ap (λ z. less_of z (peek (fill c (past (needed l c Nothing) ms)) s x z)) b
    ∙ sym (needed_peek l c (Star c) s x ms w)
    ∙ ap (λ z. peek (fill (written_out l z c) ms) s x w) (sym m)

pub star_at : (l : ℕ) (most : Option ℕ) (c : Part) (ms now next : List (Option ℕ)) → most ≡ None → now ≡ past (needed l c Nothing) ms → next ≡ past c now → next ≡ past (written_out l most c) ms
star_at l most c ms now next m n e =
    e ∙ ap (λ z. past c z) n ∙ sym (needed_past l c (Star c) ms) ∙ ap (λ z. past (written_out l z c) ms) (sym m)

pub more_weight : (l most' more : ℕ) (most : Option ℕ) (c : Part) (s : List ℕ) (x : ℕ) (ms now : List (Option ℕ)) (w begun new : Option ℕ) → most ≡ Some most' → more ≡ most' - l → begun ≡ peek (fill (needed l c Nothing) ms) s x w → now ≡ past (needed l c Nothing) ms → new ≡ peek (fill (up_to more c) now) s x begun → new ≡ peek (fill (written_out l most c) ms) s x w
more_weight l most' more most c s x ms now w begun new m d b n e =
    e
    ∙ ap (λ z. peek (fill (up_to z c) now) s x begun) d
    ∙ ap (λ z. peek (fill (up_to (most' - l) c) z) s x begun) n
    ∙ ap (λ z. peek (fill (up_to (most' - l) c) (past (needed l c Nothing) ms)) s x z) b
    ∙ sym (needed_peek l c (up_to (most' - l) c) s x ms w)
    ∙ ap (λ z. peek (fill (written_out l z c) ms) s x w) (sym m)

pub more_at : (l most' more : ℕ) (most : Option ℕ) (c : Part) (ms now next : List (Option ℕ)) → most ≡ Some most' → more ≡ most' - l → now ≡ past (needed l c Nothing) ms → next ≡ past (up_to more c) now → next ≡ past (written_out l most c) ms
more_at l most' more most c ms now next m d n e =
    e ∙ ap (λ z. past (up_to z c) now) d ∙ ap (λ z. past (up_to (most' - l) c) z) n ∙ sym (needed_past l c (up_to (most' - l) c) ms)
    ∙ ap (λ z. past (written_out l z c) ms) (sym m)

-- only asked what comes out after it, the turn puts no marks
pub star_marks : (asked : Asked) (l : ℕ) (most : Option ℕ) (c : Part) (s : List ℕ) (x : ℕ) (ms now : List (Option ℕ)) (w begun turn new : Option ℕ) (old out same all : List (Option ℕ)) → most ≡ None → begun ≡ peek (fill (needed l c Nothing) ms) s x w → now ≡ past (needed l c Nothing) ms → turn ≡ peek (fill c now) s x begun → new ≡ less_of begun turn → out ≡ old ++ marks_put asked (fill (needed l c Nothing) ms) s x w → same ≡ out ++ [] → all ≡ same ++ marks_put asked (fill c now) s x new → all ≡ old ++ marks_put asked (fill (written_out l most c) ms) s x w
star_marks asked l most c s x ms now w begun turn new old out same all m b n t e o k a =
    a
    ∙ ap (λ z. z ++ marks_put asked (fill c now) s x new) (k ∙ append-nil out)
    ∙ ap (λ z. out ++ marks_put asked (fill c now) s x z) (e ∙ ap (λ z. less_of begun z) t)
    ∙ ap (λ z. out ++ marks_put asked (fill c z) s x (less_of begun (peek (fill c z) s x begun))) n
    ∙ ap (λ z. out ++ marks_put asked (fill (Star c) (past (needed l c Nothing) ms)) s x z) b
    ∙ ap (λ z. z ++ marks_put asked (fill (Star c) (past (needed l c Nothing) ms)) s x (peek (fill (needed l c Nothing) ms) s x w)) o
    ∙ append_assoc old (marks_put asked (fill (needed l c Nothing) ms) s x w) _
    ∙ ap (λ z. old ++ z) (sym (needed_put asked l c (Star c) s x ms w))
    ∙ ap (λ z. old ++ marks_put asked (fill (written_out l z c) ms) s x w) (sym m)

pub more_marks : (asked : Asked) (l most' more : ℕ) (most : Option ℕ) (c : Part) (s : List ℕ) (x : ℕ) (ms now : List (Option ℕ)) (w begun : Option ℕ) (old out all : List (Option ℕ)) → most ≡ Some most' → more ≡ most' - l → begun ≡ peek (fill (needed l c Nothing) ms) s x w → now ≡ past (needed l c Nothing) ms → out ≡ old ++ marks_put asked (fill (needed l c Nothing) ms) s x w → all ≡ out ++ marks_put asked (fill (up_to more c) now) s x begun → all ≡ old ++ marks_put asked (fill (written_out l most c) ms) s x w
more_marks asked l most' more most c s x ms now w begun old out all m d b n o a =
    a
    ∙ ap (λ z. out ++ marks_put asked (fill (up_to z c) now) s x begun) d
    ∙ ap (λ z. out ++ marks_put asked (fill (up_to (most' - l) c) z) s x begun) n
    ∙ ap (λ z. out ++ marks_put asked (fill (up_to (most' - l) c) (past (needed l c Nothing) ms)) s x z) b
    ∙ ap (λ z. z ++ marks_put asked (fill (up_to (most' - l) c) (past (needed l c Nothing) ms)) s x (peek (fill (needed l c Nothing) ms) s x w)) o
    ∙ append_assoc old (marks_put asked (fill (needed l c Nothing) ms) s x w) _
    ∙ ap (λ z. old ++ z) (sym (needed_put asked l c (up_to (most' - l) c) s x ms w))
    ∙ ap (λ z. old ++ marks_put asked (fill (written_out l z c) ms) s x w) (sym m)

pub ruleset refer_laws = (tree_of-Sequence, sequence_of-drop, sequence_of-all, get_or_read)
