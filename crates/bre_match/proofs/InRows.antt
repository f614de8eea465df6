-- Ways through any number of bytes of a set from two places in one row of them: the longer ones are the same.
use Rattle.std.proofs.Common.{◌≡◌, inl, inr, ℕ, zero, suc, ◌+◌, ◌-◌, ◌<◌, ◌≤◌, Bool, true, false, List, [], ◌∷◌, ◌++◌, map, drop, length, get_or, Option, None, refl, ap, sym, ◌∙◌, subst, append-nil, arith}
use Rattle.bre_parse.specs.Groups.{Groups}
use Rattle.bre_parse.specs.Tree.{Tree, Set, Repeat}
use Rattle.bre_parse.specs.Ways.{Way, ways, by_end}
use Rattle.bre_match.specs.declared.left.Left.{Left}
use Rattle.bre_match.specs.declared.run.Ahead.{Ahead}
use Rattle.bre_match.specs.declared.run.Ends.{Ends}
use Rattle.bre_match.specs.declared.seen.Mark.{Mark}
use Rattle.bre_match.specs.declared.seen.Seen.{Seen}
use Rattle.bre_match.specs.declared.turn.Bounds.{Bounds}
use Rattle.bre_match.specs.Meeting.{AreInRow, HasMet, MayMark, TakenAhead, TakenInRow, from_place, mark_of, others_of, ways_through}
use Rattle.bre_match.specs.Runs.{AreOf, at_item, closed, members, shorter_ways, tasks, ways_from}
use Rattle.bre_match.specs.Turns.{same_turn}
use Rattle.bre_match.proofs.Keeping.{keeps_same}
use Rattle.bre_match.proofs.Likeness.{has_turn_at}
use Rattle.bre_match.proofs.Tasks.{run_sorted}
use Rattle.bre_match.proofs.Starts.{members_later, row_ways}

split : (p k r e n : ℕ) (g : Groups) → n ≡ k + r → e ≡ p + n
    → shorter_ways e n (closed None g) ≡ shorter_ways e r (closed None g) ++ ways_from p k g
split p zero zero e n g a b =
    let none : n ≡ 0 = omega (arith, a) in
    ap (λ m. shorter_ways e m (closed None g)) none ∙ sym (append-nil (shorter_ways e 0 (closed None g)))
split p (suc m) zero e n g a b =
    let count : n ≡ suc m = omega (arith, a) in
    let last : e - 1 ≡ p + m = omega (arith, a, b) in
    ap (λ x. shorter_ways e x (closed None g)) count ∙ ap (λ x. (e, closed None g e) ∷ shorter_ways x m (closed None g)) last
split p k (suc r) e n g a b =
    let count : n ≡ suc (k + r) = omega (arith, a) in
    let last : e - 1 ≡ p + (k + r) = omega (arith, a, b) in
    ap (λ x. shorter_ways e x (closed None g)) count
    ∙ ap (λ l. (e, closed None g e) ∷ l) (split p k r (e - 1) (k + r) g refl last)

-- the ways from a place are those from a later one in the row, and then those that end before that
rows_share : (s : List ℕ) (negated : Bool) (rs : List (ℕ × ℕ)) (p k q : ℕ) (g : Groups) → q ≡ p + k
    → k ≤ members None 0 negated rs (drop p s)
    → by_end (ways (Repeat 0 None (Set negated rs)) s p g) ≡ by_end (ways (Repeat 0 None (Set negated rs)) s q g) ++ ways_from p k g
rows_share s negated rs p k q g at h =
    let n = members None 0 negated rs (drop p s) in
    let here = row_ways s p n negated rs g refl in
    let there = row_ways s (p + k) (n - k) negated rs g (members_later k s p negated rs h) in
    let end : p + k + (n - k) ≡ p + n = omega (arith, h) in
    let all : by_end (ways (Repeat 0 None (Set negated rs)) s q g) ≡ shorter_ways (p + n) (n - k) (closed None g) =
    ap (λ x. by_end (ways (Repeat 0 None (Set negated rs)) s x g)) at ∙ there
    ∙ ap (λ x. shorter_ways x (n - k) (closed None g)) end in
    here ∙ split p k (n - k) (p + n) n g (omega (arith, h)) refl ∙ ap (λ l. l ++ ways_from p k g) (sym all)

pub in_row : (asked : List Bool) (negated : Bool) (rs : List (ℕ × ℕ)) (s : List ℕ) (mark : Mark) (place : ℕ) (old : List Mark)
    (before after : List (ℕ × Way)) → HasMet asked old (from_place place mark) → AreInRow negated rs s place mark.way.0
    → after ≡ map (at_item (mark.done + 1)) (ways_from mark.way.0 (place - mark.way.0) mark.way.1) ++ before
    → TakenInRow asked (Repeat 0 None (Set negated rs)) s mark old before after
in_row asked negated rs s mark place old before after has (inl row) put =
    let p = mark.way.0 in
    let none : place - p ≡ 0 = (let le = row.0 in omega (arith, le)) in
    let at : p ≡ place + (p - place) = (let le = row.0 in omega (arith, le)) in
    let ws = ways_through (Repeat 0 None (Set negated rs)) s mark in
    inr (
      place,
      ws,
      [],
      ways_from place (p - place) mark.way.1,
      has,
      sym (append-nil ws),
      rows_share s negated rs place (p - place) p mark.way.1 at row.1,
      put ∙ ap (λ x. map (at_item (mark.done + 1)) (ways_from p x mark.way.1) ++ before) none,
    )
in_row asked negated rs s mark place old before after has (inr row) put =
    let p = mark.way.0 in
    let at : place ≡ p + (place - p) = (let lt = row.0 in omega (arith, lt)) in
    let ws = ways_through (Repeat 0 None (Set negated rs)) s (from_place place mark) in
    inr (
      place,
      ws,
      ways_from p (place - p) mark.way.1,
      [],
      has,
      rows_share s negated rs p (place - p) place mark.way.1 at row.1,
      sym (append-nil ws),
      put,
    )

pub ends_before_are : (p q : ℕ) (g : Groups) → p < q → ways_from p (q - p) g ≡ shorter_ways (q - 1) (q - 1 - p) (closed None g)
ends_before_are p q g lt =
    let count : q - p ≡ suc (q - 1 - p) = omega (arith, lt) in
    let last : p + (q - 1 - p) ≡ q - 1 = omega (arith, lt) in
    ap (λ n. ways_from p n g) count ∙ ap (λ e. shorter_ways e (q - 1 - p) (closed None g)) last

pub none_before : (p q : ℕ) (g : Groups) → q ≤ p → ways_from p (q - p) g ≡ []
none_before p q g le =
    let none : q - p ≡ 0 = omega (arith, le) in
    ap (λ n. ways_from p n g) none

-- where no other way is known, all ways come before all else
pub all_in_row : (asked : List Bool) (negated : Bool) (rs : List (ℕ × ℕ)) (s : List ℕ) (mark : Mark) (old : List Mark)
    (found : Option Ends) (before after : List (ℕ × Way))
    → AreOf mark.way.1 found (ways (Repeat 0 None (Set negated rs)) s mark.way.0 mark.way.1)
    → after ≡ map (at_item (mark.done + 1)) (ways (Repeat 0 None (Set negated rs)) s mark.way.0 mark.way.1) ++ before
    → TakenInRow asked (Repeat 0 None (Set negated rs)) s mark old before after
all_in_row asked negated rs s mark old found before after are put =
    inl (put ∙ ap (λ l. map (at_item (mark.done + 1)) l ++ before)
    (sym (run_sorted mark.way.1 found (ways (Repeat 0 None (Set negated rs)) s mark.way.0 mark.way.1) are)))

-- what comes of a way in a row, with the others of its run
pub taken_in_row : (asked : List Bool) (t : Tree) (s : List ℕ) (taken : Ahead) (seen seen' : Seen) (before mid after : List Left)
    → MayMark (mark_of taken) seen.marks.items seen'.marks.items → tasks mid ≡ others_of taken ++ tasks before
    → TakenInRow asked t s (mark_of taken) seen.marks.items (tasks mid) (tasks after)
    → TakenAhead asked t s taken seen seen' before after
taken_in_row asked t s taken seen seen' before mid after marked others (inl put) =
    let all = ways_through t s (mark_of taken) in
    inl (
      marked,
      (all, keeps_same asked all all refl, put ∙ ap (λ l. map (at_item (taken.item + 1)) all ++ l) others),
    )
taken_in_row asked t s taken seen seen' before mid after marked others (inr on) =
    inr (inr (
      marked,
      (
        on.0,
        on.1,
        on.2,
        on.3,
        on.4,
        on.5,
        on.6,
        on.7 ∙ ap (λ l. map (at_item (taken.item + 1)) on.2 ++ l) others,
      ),
    ))

other_default : (ms : List Mark) (i : ℕ) (d e : Mark) → i < length ms → get_or ms i d ≡ get_or ms i e
other_default [] i d e lt = absurd (omega arith)
other_default (m ∷ ms) zero d e lt = refl
other_default (m ∷ ms) (suc i) d e lt = other_default ms i d e (omega arith)

-- a way that is found has met the item
pub met_there : (asked : List Bool) (ms : List Mark) (b : Bounds) (i : ℕ) (d e mark : Mark) → b.unbounded ≡ false → i < length ms
    → same_turn b asked (get_or ms i d) (from_place (get_or ms i d).way.0 mark) ≡ true
    → HasMet asked ms (from_place (get_or ms i e).way.0 mark)
met_there asked ms b i d e mark apart lt same =
    subst (λ m. HasMet asked ms (from_place m.way.0 mark)) (other_default ms i d e lt)
    (b, apart, has_turn_at b asked ms i (from_place (get_or ms i d).way.0 mark) d lt same)
