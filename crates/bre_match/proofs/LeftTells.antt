-- What is left to take up tells what comes of the start, step by step of the search.
use Rattle.std.proofs.Common.{◌≡◌, ◌⊎◌, inl, inr, ℕ, zero, suc, ◌+◌, ◌<◌, ◌≤◌, List, [], ◌∷◌, ◌++◌, map, flat_map, length, drop, get_or, None, Bool, true, false, leb, eqb, refl, ap, sym, ◌∙◌, subst, arith}
use Rattle.std.specs.Prelude.{slice_set}
use Rattle.std.proofs.lemmas.Bool.Decides.{nat_tests}
use Rattle.bre_parse.specs.declared.tree.Node.{Node}
use Rattle.bre_parse.specs.Tree.{Tree, Repeat, tree_of, sequence_of}
use Rattle.bre_parse.specs.Groups.{cleared, no_groups}
use Rattle.bre_parse.specs.Ways.{Way, ways, turns, next_turn, below, by_end}
use Rattle.bre_match.specs.declared.left.Left.{Left}
use Rattle.bre_match.specs.declared.run.Ahead.{Ahead}
use Rattle.bre_match.specs.declared.seen.Mark.{Mark}
use Rattle.bre_match.specs.declared.seen.Seen.{Seen}
use Rattle.bre_match.specs.declared.turn.Bounds.{Bounds}
use Rattle.bre_match.specs.declared.turn.Turn.{Turn}
use Rattle.bre_match.specs.declared.turn.Turn.TheVariants as turn
use Rattle.bre_match.specs.Alike.{RefersWithin, alike}
use Rattle.bre_match.specs.Meeting.{MayMark, TakenAhead, from_place, mark_of, others_of, ways_through}
use Rattle.bre_match.specs.Outlooks.{Before, Within, Begun, first_part, after_begun, ended_or_begun, next_stages, Each, IsRepeat, NothingWithin}
use Rattle.bre_match.specs.Runs.{groups_at, ways_of, at_item, tasks}
use Rattle.bre_match.specs.Turns.{turn_if, after_way, rank, same_turn, HasTurn, TakenUp}
use Rattle.bre_match.proofs.Likeness.{both_left, both_right}
use Rattle.bre_match.proofs.MergedTurns.{of_one_rank}
use Rattle.bre_match.proofs.Each.{each_map, each_append, each_head, each_rest, each_of_map, each_before_map, each_of_all, each_before_all, each_kept, each_turn}
use Rattle.bre_match.proofs.Outlooks.{fewer, Kin, SameLeft, each_paired, one_after, nothing_same}
use Rattle.bre_match.proofs.Tasks.{items_left, first_and_others}

abbrev pub NoWays : ℕ → List Node → ℕ → List ℕ → List (ℕ × Way) → Type 0
NoWays n items at s ways = Each (λ way. NothingWithin n items at s (Before way.0 way.1)) ways

abbrev pub NoTurns : ℕ → List Node → ℕ → List ℕ → List Turn → Type 0
NoTurns n items at s turns = Each (λ t. NothingWithin n items at s (Within t)) turns

abbrev pub NoMet : ℕ → List Node → ℕ → List ℕ → List Mark → Type 0
NoMet n items at s marks = Each (λ mark. NothingWithin n items at s (Before mark.done mark.way)) marks

abbrev pub NoBegun : ℕ → List Node → ℕ → List ℕ → List Mark → Type 0
NoBegun n items at s marks = Each (λ mark. NothingWithin n items at s (Begun mark)) marks

abbrev pub Tells : List Node → (at : ℕ) → List ℕ → (start : ℕ) → (met begun : List Mark) → List (ℕ × Way)
    → List Turn → Type 0
Tells items at s start met begun ways turns =
    (n : ℕ) → NoWays n items at s ways → NoTurns n items at s turns
    → NothingWithin n items at s (Before 0 (start, no_groups)) × (NoMet (suc n) items at s met × NoBegun (suc n) items at s begun)

fewer_ways : (n : ℕ) (items : List Node) (at : ℕ) (s : List ℕ) (ways : List (ℕ × Way)) → NoWays (suc n) items at s ways
    → NoWays n items at s ways
fewer_ways n items at s ways h = each_map (λ way. NothingWithin (suc n) items at s (Before way.0 way.1))
    (λ way. NothingWithin n items at s (Before way.0 way.1)) ways (λ way. fewer items at s n (Before way.0 way.1)) h

fewer_turns : (n : ℕ) (items : List Node) (at : ℕ) (s : List ℕ) (turns : List Turn) → NoTurns (suc n) items at s turns
    → NoTurns n items at s turns
fewer_turns n items at s turns h = each_map (λ t. NothingWithin (suc n) items at s (Within t)) (λ t. NothingWithin n items at s
    (Within t)) turns
    (λ t. fewer items at s n (Within t)) h

-- the way of a run that is taken up, and the others
opened : (next : Ahead) (left : List (ℕ × Way)) → map (at_item next.item) (ways_of next.run) ++ left
    ≡ at_item next.item (mark_of next).way ∷ (others_of next ++ left)
opened next left = ap (λ l. map (at_item next.item) l ++ left) (first_and_others next.run.end next.run.shorter (groups_at next.run))

marked : (P : Mark → Type 0) (mark : Mark) (old new : List Mark) → (new ≡ old) ⊎ (new ≡ old ++ mark ∷ []) → P mark
    → Each P old → Each P new
marked P mark old new (inl e) p h = subst (Each P) (sym e) h
marked P mark old new (inr e) p h = subst (Each P) (sym e) (each_append P old (mark ∷ []) h (p, tt))

each_set : (P : Mark → Type 0) (ms : List Mark) (k : ℕ) (mark : Mark) → Each P ms → P mark → Each P (slice_set ms k mark)
each_set P [] k mark h p = tt
each_set P (m ∷ ms) zero mark h p = (p, h.1)
each_set P (m ∷ ms) (suc k) mark h p = (h.0, each_set P ms k mark h.1 p)

may_marked : (P : Mark → Type 0) (mark : Mark) (old new : List Mark) → MayMark mark old new → P mark → Each P old → Each P new
may_marked P mark old new (inl e) p h = subst (Each P) (sym e) h
may_marked P mark old new (inr (inl e)) p h = subst (Each P) (sym e) (each_append P old (mark ∷ []) h (p, tt))
may_marked P mark old new (inr (inr e)) p h = subst (Each P) (sym e.1) (each_set P old e.0 mark h p)

same_ranks : (b : Bounds) (asked : List Bool) (m u : Mark) → same_turn b asked m u ≡ true → rank b m.done ≡ rank b u.done
same_ranks b asked m u e = let f = both_left (eqb (rank b m.done) (rank b u.done)) (alike asked m.way u.way) e in grind (arith, nat_tests)

same_ways : (b : Bounds) (asked : List Bool) (m u : Mark) → same_turn b asked m u ≡ true → alike asked m.way u.way ≡ true
same_ways b asked m u e = both_right (eqb (rank b m.done) (rank b u.done)) (alike asked m.way u.way) e

one_number : (b : Bounds) (k l : ℕ) → b.unbounded ≡ false → (k ≡ l) ⊎ ((b.unbounded ≡ true) × (b.least ≤ k) ×
    (b.least ≤ l) × (0 < k) × (0 < l)) → k ≡ l
one_number b k l e (inl same) = same
one_number b k l e (inr h) = let f = h.0 in absurd cc

pub way_followed : (asked : List Bool) (items : List Node) (at : ℕ) (s : List ℕ) (start : ℕ) (part : Node) (next : Ahead)
    (seen seen' : Seen)
    (begun : List Mark) (left left' : List Left) (turns : List Turn) → RefersWithin asked (sequence_of items)
    → next.item < length items
    → part ≡ get_or items next.item part → eqb next.item at ≡ false → TakenAhead asked
    (tree_of part) s next seen seen' left left'
    → Tells items at s start seen.marks.items begun (map (at_item next.item) (ways_of next.run) ++ tasks left) turns
    → Tells items at s start seen'.marks.items begun (tasks left') turns
way_followed asked items at s start part next seen seen' begun left left' turns within lt there apart (inl up) told n ws ts =
    let i = next.item in
    let w = (mark_of next).way in
    let P : ℕ × Way → Type 0 = λ way. NothingWithin n items at s (Before way.0 way.1) in
    let Q : Way → Type 0 = λ v. NothingWithin n items at s (Before (i + 1) v) in
    let kept = up.1.0 in
    let all = ways_through (tree_of part) s (mark_of next) in
    let before = others_of next ++ tasks left in
    let split : Each P (map (at_item (i + 1)) kept ++ before) = subst (Each P) up.1.2 ws in
    let mine = each_before_map P (at_item (i + 1)) kept (each_head P (map (at_item (i + 1)) kept) before split) in
    let others = each_rest P (map (at_item (i + 1)) kept) before split in
    let whole = each_kept asked Q (λ v u e. nothing_same asked items at s within n (Before (i + 1) v) (Before (i + 1) u)
    (refl, e)) all kept
    up.1.1 mine in
    let is : first_part (drop i items) ≡ tree_of part = ap first_part (items_left items i part lt there) in
    let children = each_of_map (NothingWithin n items at s) (Before (i + 1)) all whole in
    let steps : Each (NothingWithin n items at s) (next_stages items at s (Before i w)) =
    subst (λ b. Each (NothingWithin n items at s) (elim b [
      | true ↦ Within (turn.Next 0 w) ∷ []
      | false ↦ map (Before
          (i + 1)) (by_end (ways (first_part (drop i items)) s w.0 w.1))
    ]))
    (sym apart)
    (subst (λ t. Each (NothingWithin n items at s) (map (Before (i + 1)) (by_end (ways t s w.0 w.1)))) (sym is) children) in
    let here : NothingWithin (suc n) items at s (Before i w) = (lt, steps) in
    let old = told n (subst (Each P) (sym (opened next (tasks left))) (fewer items at s n (Before i w) here, others)) ts in
    let met = may_marked (λ mark. NothingWithin (suc n) items at s (Before mark.done mark.way)) (mark_of next) seen.marks.items
    seen'.marks.items up.0 here old.1.0 in
    (old.0, (met, old.1.1))
way_followed asked items at s start part next seen seen' begun left left' turns within lt there apart (inr (inr up)) told n ws ts =
    let old = told n (put n (comes_to n ws ts) (others_left n ws)) ts in
    let here = one_more n ws old.1.0 in
    let met = may_marked (λ mark. NothingWithin (suc n) items at s (Before mark.done mark.way)) (mark_of next) seen.marks.items
    seen'.marks.items up.0 here old.1.0 in
    (old.0, (met, old.1.1))
  where
    i : ℕ
    i = next.item

    w : Way
    w = (mark_of next).way

    v : Way
    v = (up.1.0, w.1)

    earlier : Mark
    earlier = from_place up.1.0 (mark_of next)

    shared : List Way
    shared = up.1.1

    own : List Way
    own = up.1.2

    before : List (ℕ × Way)
    before = others_of next ++ tasks left

    b : Bounds
    b = up.1.4.0

    put : (n : ℕ) → NothingWithin n items at s (Before i w) → NoWays n items at s before
        → NoWays n items at s (map (at_item i) (ways_of next.run) ++ tasks left)
    put n h others = subst (λ l. NoWays n items at s l) (sym (opened next (tasks left))) (h, others)

    others_left : (n : ℕ) → NoWays n items at s (tasks left') → NoWays n items at s before
    others_left n ws = each_rest (λ way. NothingWithin n items at s (Before way.0 way.1)) (map (at_item (i + 1)) own) before
        (subst (λ l. NoWays n items at s l) up.1.7 ws)

    own_left : (n : ℕ) → NoWays n items at s (tasks left') → Each (λ x. NothingWithin n items at s (Before (i + 1) x)) own
    own_left n ws =
        each_before_map (λ way. NothingWithin n items at s (Before way.0 way.1)) (at_item (i + 1)) own
        (each_head (λ way. NothingWithin n items at s (Before way.0 way.1)) (map (at_item (i + 1)) own) before
        (subst (λ l. NoWays n items at s l) up.1.7 ws))

    steps_of : (x : Way) → next_stages items at s (Before i x) ≡ map (Before (i + 1)) (by_end (ways (tree_of part) s x.0 x.1))
    steps_of x =
        ap (λ b. elim b [
          | true ↦ Within (turn.Next 0 x) ∷ []
          | false ↦ map (Before (i + 1)) (by_end (ways (first_part (drop i items)) s x.0 x.1))
        ]) apart
        ∙ ap (λ t. map (Before (i + 1)) (by_end (ways t s x.0 x.1))) (ap first_part (items_left items i part lt there))

    one_more : (n : ℕ) → NoWays n items at s (tasks left') → NoMet (suc n) items at s seen.marks.items
        → NothingWithin (suc n) items at s (Before i w)
    one_more n ws met =
        let Q : Way → Type 0 = λ x. NothingWithin n items at s (Before (i + 1) x) in
        let m = each_turn (λ mark. NothingWithin (suc n) items at s (Before mark.done mark.way)) b asked seen.marks.items earlier
        up.1.4.2 met in
        let one = one_number b m.0.done i up.1.4.1 (of_one_rank b m.0.done i (same_ranks b asked m.0 earlier m.1)) in
        let found : NothingWithin (suc n) items at s (Before i v) = nothing_same asked items at s within (suc n)
        (Before m.0.done m.0.way) (Before i v) (one, same_ways b asked m.0 earlier m.1) m.2 in
        let each : Each (NothingWithin n items at s) (map (Before (i + 1)) (shared ++ up.1.3)) =
        subst (Each (NothingWithin n items at s)) (steps_of v ∙ ap (map (Before (i + 1))) up.1.6) found.1 in
        let some = each_head Q shared up.1.3
        (each_before_map (NothingWithin n items at s) (Before (i + 1)) (shared ++ up.1.3) each) in
        let all = each_append Q shared own some (own_left n ws) in (
          lt,
          subst (Each (NothingWithin n items at s)) (sym (steps_of w ∙ ap (map (Before (i + 1))) up.1.5))
              (each_of_map (NothingWithin n items at s) (Before (i + 1)) (shared ++ own) all),
        )

    comes_to : (n : ℕ) → NoWays n items at s (tasks left') → NoTurns n items at s turns → NothingWithin n items at s (Before i w)
    comes_to zero ws ts = tt
    comes_to (suc n) ws ts =
        let ws' = fewer_ways n items at s (tasks left') ws in
        let ts' = fewer_turns n items at s turns ts in
        let old = told n (put n (comes_to n ws' ts') (others_left n ws')) ts' in
        one_more n ws' old.1.0
way_followed asked items at s start part next seen seen' begun left left' turns within lt there apart (inr (inl up)) told n ws ts =
    let left_n = subst (λ l. NoWays n items at s l) up.2 ws in
    let old = told n (in_front n left_n ts) ts in
    (old.0, (subst (λ l. NoMet (suc n) items at s l) (sym up.1) old.1.0, old.1.1))
  where
    i : ℕ
    i = next.item

    w : Way
    w = (mark_of next).way

    before : List (ℕ × Way)
    before = others_of next ++ tasks left

    b : Bounds
    b = up.0.0

    put : (n : ℕ) → NothingWithin n items at s (Before i w) → NoWays n items at s before
        → NoWays n items at s (map (at_item i) (ways_of next.run) ++ tasks left)
    put n h others = subst (λ l. NoWays n items at s l) (sym (opened next (tasks left))) (h, others)

    comes_to_nothing : (n : ℕ) → NoWays n items at s before → NoTurns n items at s turns → NothingWithin n items at s (Before i w)
    comes_to_nothing zero others ts = tt
    comes_to_nothing (suc n) others ts =
        let others' = fewer_ways n items at s before others in
        let ts' = fewer_turns n items at s turns ts in
        let old = told n (put n (comes_to_nothing n others' ts') others') ts' in
        let m = each_turn (λ mark. NothingWithin (suc n) items at s (Before mark.done mark.way)) b asked seen.marks.items
        (mark_of next) up.0.2
        old.1.0 in
        let one = one_number b m.0.done i up.0.1 (of_one_rank b m.0.done i (same_ranks b asked m.0 (mark_of next) m.1)) in
        nothing_same asked items at s within (suc n) (Before m.0.done m.0.way) (Before i w) (
          one,
          same_ways b asked m.0
              (mark_of next) m.1,
        ) m.2

    in_front : (n : ℕ) → NoWays n items at s before → NoTurns n items at s turns
        → NoWays n items at s (map (at_item i) (ways_of next.run) ++ tasks left)
    in_front n others ts = put n (comes_to_nothing n others ts) others

-- a way comes to the repeat
pub way_begins : (items : List Node) (at : ℕ) (s : List ℕ) (start : ℕ) (next : Ahead) (met begun : List Mark)
    (left left' : List Left)
    (turns turns' : List Turn) → next.item < length items → eqb next.item at ≡ true → tasks left' ≡ others_of next ++ tasks left
    → turns' ≡ turn.Next 0 (mark_of next).way ∷ turns
    → Tells items at s start met begun (map (at_item next.item) (ways_of next.run) ++ tasks left) turns
    → Tells items at s start met begun (tasks left') turns'
way_begins items at s start next met begun left left' turns turns' lt here put put' told n ws ts =
    let i = next.item in
    let w = (mark_of next).way in
    let ts' : NoTurns n items at s (turn.Next 0 w ∷ turns) = subst (λ l. NoTurns n items at s l) put' ts in
    let others = subst (λ l. NoWays n items at s l) put ws in
    let steps : Each (NothingWithin n items at s) (next_stages items at s (Before i w)) =
    subst (λ b. Each (NothingWithin n items at s) (elim b [
      | true ↦ Within (turn.Next 0 w) ∷ []
      | false ↦ map (Before
          (i + 1)) (by_end (ways (first_part (drop i items)) s w.0 w.1))
    ]))
    (sym here) (ts'.0, tt) in
    told n (subst (λ l. NoWays n items at s l) (sym (opened next (tasks left))) (
      fewer items at s n (Before i w)
          (lt, steps),
      others,
    )) ts'.1

-- the repeat ends here, and the next item is met
pub way_ended : (items : List Node) (at : ℕ) (s : List ℕ) (start : ℕ) (w : Way) (met begun : List Mark) (left left' : List
    (ℕ × Way))
    (turns : List Turn) → left' ≡ at_item (at + 1) w ∷ left → Tells items at s start met begun left (turn.Ended w ∷ turns)
    → Tells items at s start met begun left' turns
way_ended items at s start w met begun left left' turns put told n ws ts =
    let ws' : NoWays n items at s (at_item (at + 1) w ∷ left) = subst (λ l. NoWays n items at s l) put ws in
    told n ws'.1 (fewer items at s n (Within (turn.Ended w)) (tt, (ws'.0, tt)), ts)

-- one more turn begins, or one like it did
pub turn_taken : (asked : List Bool) (items : List Node) (at : ℕ) (s : List ℕ) (start : ℕ) (b : Bounds) (t : Tree) (k : ℕ)
    (w : Way) (may : Bool)
    (met begun begun' : List Mark) (left : List (ℕ × Way)) (turns turns' : List Turn) → RefersWithin asked (sequence_of items)
    → first_part (drop at items) ≡ Repeat b.least b.most t → (b.unbounded ≡ true → b.most ≡ None) → may ≡ below k b.most
    → TakenUp b asked may (ways t s) (record { done = k; way = (w.0, cleared t w.1) }) (turn_if (leb b.least k)
    (turn.Ended w)) begun begun' turns turns'
    → Tells items at s start met begun left (turn.Next k w ∷ turns) → Tells items at s start met begun' left turns'
turn_taken asked items at s start b t k w may met begun begun' left turns turns' within is free begins taken told = by_kind taken
  where
    u : Mark
    u = record { done = k; way = (w.0, cleared t w.1) }

    ended : List Turn
    ended = turn_if (leb b.least k) (turn.Ended w)

    -- of the turn nothing comes, where nothing comes of what it begins, nor of ending here
    here : (n : ℕ) → NothingWithin n items at s (Begun u) → NoTurns n items at s ended → NothingWithin (suc n) items at s
        (Within (turn.Next k w))
    here n h e = (
      subst IsRepeat (sym is) tt,
      subst (λ r. Each (NothingWithin n items at s) (ended_or_begun r k w)) (sym is)
          (h, each_of_map (NothingWithin n items at s) Within ended e),
    )

    kin : (m : Mark) → same_turn b asked m u ≡ true → Kin (Repeat b.least b.most t) m.done k
    kin m e = by_rank (of_one_rank b m.done k (same_ranks b asked m u e))
      where
        by_rank : (m.done ≡ k) ⊎ ((b.unbounded ≡ true) × (b.least ≤ m.done) × (b.least ≤ k) × (0 < m.done) × (0 < k))
            → Kin (Repeat b.least b.most t) m.done k
        by_rank (inl same) = inl same
        by_rank (inr h) = inr (free h.0, h.1, h.2, h.3, h.4)

    comes_to_nothing : (n : ℕ) → HasTurn b asked begun u → NoWays n items at s left → NoTurns n items at s (ended ++ turns)
        → NothingWithin n items at s (Begun u)
    comes_to_nothing zero has ws ts = tt
    comes_to_nothing (suc n) has ws ts =
        let P : Turn → Type 0 = λ x. NothingWithin n items at s (Within x) in
        let ws' = fewer_ways n items at s left ws in
        let ts' = fewer_turns n items at s (ended ++ turns) ts in
        let begun_n = comes_to_nothing n has ws' ts' in
        let turn_n = fewer items at s n (Within (turn.Next k w)) (here n begun_n (each_head P ended turns ts')) in
        let old = told n ws' (turn_n, each_rest P ended turns ts') in
        let m = each_turn (λ mark. NothingWithin (suc n) items at s (Begun mark)) b asked begun u has old.1.1 in
        nothing_same asked items at s within (suc n) (Begun m.0) (Begun u)
        (subst (λ r. Kin r m.0.done k) (sym is) (kin m.0 m.1), same_ways b asked m.0 u m.1) m.2

    after_like : (n : ℕ) (v x : Way) → alike asked v x ≡ true → NoTurns n items at s (after_way b.least k w.0 v)
        → NoTurns n items at s (after_way b.least k w.0 x)
    after_like n v x e h = each_paired (SameLeft asked (Repeat b.least b.most t)) (λ y. NothingWithin n items at s (Within y))
        (λ y z same. nothing_same asked items at s within n (Within y) (Within z) (subst (λ r. SameLeft asked r y z) (sym is) same))
        (after_way b.least k w.0 v) (after_way b.least k w.0 x) (one_after asked b.least b.most t k k w.0 w.0 v x (inl refl) refl e) h

    by_kind : TakenUp b asked may (ways t s) u ended begun begun' turns turns' → Tells items at s start met begun' left turns'
    by_kind (inl up) n ws ts =
        let P : Turn → Type 0 = λ x. NothingWithin n items at s (Within x) in
        let kept = up.0 in
        let all = next_turn may (ways t s) w.0 (cleared t w.1) in
        let children = flat_map (after_way b.least k w.0) kept in
        let split : Each P (children ++ (ended ++ turns)) = subst (Each P) up.3 ts in
        let rest = each_rest P children (ended ++ turns) split in
        let mine = each_before_all P (after_way b.least k w.0) kept (each_head P children (ended ++ turns) split) in
        let whole = each_kept asked (λ v. Each P (after_way b.least k w.0 v)) (after_like n) all kept up.1 mine in
        let led = each_of_all P (after_way b.least k w.0) all whole in
        let begun_n : NothingWithin (suc n) items at s (Begun u) = (
          tt,
          subst (λ r. Each (NothingWithin n items at s) (map Within (after_begun r s u))) (sym is)
              (subst (λ c. Each (NothingWithin n items at s) (map Within (flat_map (after_way b.least k w.0) (next_turn c
              (ways t s) w.0 (cleared t w.1))))) begins
              (each_of_map (NothingWithin n items at s) Within (flat_map (after_way b.least k w.0) all) led)),
        ) in
        let turn_n = fewer items at s n (Within (turn.Next k w))
        (here n (fewer items at s n (Begun u) begun_n) (each_head P ended turns rest)) in
        let old = told n ws (turn_n, each_rest P ended turns rest) in
        (old.0, (old.1.0, marked (λ mark. NothingWithin (suc n) items at s (Begun mark)) u begun begun' up.2 begun_n old.1.1))
    by_kind (inr up) n ws ts =
        let P : Turn → Type 0 = λ x. NothingWithin n items at s (Within x) in
        let rest : Each P (ended ++ turns) = subst (Each P) up.2 ts in
        let begun_n = comes_to_nothing n up.0 ws rest in
        let turn_n = fewer items at s n (Within (turn.Next k w)) (here n begun_n (each_head P ended turns rest)) in
        let old = told n ws (turn_n, each_rest P ended turns rest) in
        (old.0, (old.1.0, subst (λ l. NoBegun (suc n) items at s l) (sym up.1) old.1.1))
