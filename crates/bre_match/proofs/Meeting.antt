-- The ways of a sequence, of which none is taken up that is like one that met the same item before.
use Rattle.std.proofs.Common.{◌≡◌, inl, inr, ℕ, zero, suc, ◌+◌, ◌<◌, ◌≤◌, List, [], ◌∷◌, ◌++◌, map, flat_map, length, get_or, drop, Bool, true, false, leb, ltb, eqb, max, refl, ap, sym, ◌∙◌, subst, append_assoc, append-nil, arith}
use Rattle.std.specs.Prelude.{◌&&◌, slice_set}
use Rattle.std.proofs.lemmas.Bool.Decides.{nat_tests}
use Rattle.std.proofs.lemmas.Grind.{flat_map-append}
use Rattle.std.proofs.lemmas.List.{drop_all}
use Rattle.bre_parse.specs.declared.tree.Node.{Node}
use Rattle.bre_parse.specs.Tree.{tree_of, sequence_of}
use Rattle.bre_parse.specs.Ways.{Way, ways, by_end}
use Rattle.bre_parse.specs.Groups.{Groups}
use Rattle.bre_match.specs.declared.left.Left.{Left}
use Rattle.bre_match.specs.declared.left.Left.TheVariants as stack
use Rattle.bre_match.specs.declared.run.Ahead.{Ahead}
use Rattle.bre_match.specs.declared.run.Run.{Run}
use Rattle.bre_match.specs.declared.seen.Mark.{Mark}
use Rattle.bre_match.specs.declared.seen.Seen.{Seen}
use Rattle.bre_match.specs.declared.turn.Bounds.{Bounds}
use Rattle.bre_match.specs.Alike.{RefersWithin, alike}
use Rattle.bre_match.specs.Keeping.{KeepsFirsts}
use Rattle.bre_match.specs.Meeting.{HasMet, MayMark, mark_of, others_of, TakenAhead, HandedOut, LeadNowhere}
use Rattle.bre_match.specs.Narrowing.{weight}
use Rattle.bre_match.specs.Runs.{groups_at, shorter_ways, ways_of, other_ways, at_item, tasks}
use Rattle.bre_match.specs.Turns.{rank}
use Rattle.bre_match.proofs.Asking.{rest_within}
use Rattle.bre_match.proofs.Following.{kept_tasks, followed_falls}
use Rattle.bre_match.proofs.Keeping.{keeps_same, keeps_through, keeps_after, keeps_before, keeps_uncovered, covers_same, covers_all}
use Rattle.bre_match.proofs.Likeness.{both_left, both_right, Covers}
use Rattle.bre_match.proofs.MergedTurns.{EachMark, each_map, each_push, each_has, covers_alone}
use Rattle.bre_match.proofs.SameWays.{even_at, even_ways, covers_more, covers_after, covers_like, covers_itself}
use Rattle.bre_match.proofs.Tasks.{Comes, task_ways, task_steps, tasks_push, first_and_others, first_task, followed, weight-append, follow_falls, taken_steps, some_steps, with_ends}

-- what follows a way that met an item
abbrev pub follows : List Node → List ℕ → Mark → List Way
follows items s m = task_ways items s (m.done, m.way)

-- what is done before the next way that meets no later item than the mark's
abbrev pub beyond : Mark → List (ℕ × Way) → List (ℕ × Way)
beyond m [] = []
beyond m (x ∷ xs) = elim (ltb m.done x.0) [ true ↦ x ∷ beyond m xs | false ↦ [] ]

abbrev pub AllBeyond : Mark → List (ℕ × Way) → Type 0
AllBeyond m [] = Unit {0}
AllBeyond m (x ∷ xs) = (ltb m.done x.0 ≡ true) × AllBeyond m xs

beyond_all : (m : Mark) (xs ys : List (ℕ × Way)) → AllBeyond m xs → beyond m (xs ++ ys) ≡ xs ++ beyond m ys
beyond_all m [] ys h = refl
beyond_all m (x ∷ xs) ys h =
    ap (λ c. elim c [ true ↦ x ∷ beyond m (xs ++ ys) | false ↦ [] ]) h.0 ∙ ap (λ l. x ∷ l) (beyond_all m xs ys h.1)

beyond_here : (m : Mark) (i : ℕ) (ws : List Way) → ltb m.done i ≡ true → AllBeyond m (map (at_item i) ws)
beyond_here m i [] e = tt
beyond_here m i (w ∷ ws) e = (e, beyond_here m i ws e)

beyond_append : (m : Mark) (xs ys : List (ℕ × Way)) → AllBeyond m xs → AllBeyond m ys → AllBeyond m (xs ++ ys)
beyond_append m [] ys h i = i
beyond_append m (x ∷ xs) ys h i = (h.0, beyond_append m xs ys h.1 i)

-- what follows a way that met an item is there, or comes before the next way that meets no later one
abbrev pub IsThere : List Bool → List Node → List ℕ → List Way → List (ℕ × Way) → Mark → Type 0
IsThere asked items s out left m = Covers asked (out ++ flat_map (task_ways items s) (beyond m left)) (follows items s m)

-- what the search keeps
pub record Met (asked : List Bool) (items : List Node) (s : List ℕ) (whole out : List Way) (left : List (ℕ × Way))
    (marks : List Mark) : Type 0 where
  pub kept : KeepsFirsts asked whole (out ++ flat_map (task_ways items s) left)
  pub there : EachMark (IsThere asked items s out left) marks

-- Where other ways take the place of some that meet an item, and keep the first of what follows, what was there still is.

abbrev KeepFront : List Bool → List Node → List ℕ → (out given : List Way) → (old new : List (ℕ × Way)) → Type 0
KeepFront asked items s out given old new =
    (X : List (ℕ × Way)) → KeepsFirsts asked (out ++ flat_map (task_ways items s) (old ++ X))
    (given ++ flat_map (task_ways items s) (new ++ X))

still_there : (asked : List Bool) (items : List Node) (s : List ℕ) (out given : List Way) (i : ℕ) (w : Way) (ws : List Way)
    (new rest : List (ℕ × Way))
    → KeepFront asked items s out given (map (at_item i) (w ∷ ws)) new
    → ((xs : List Way) → Covers asked out xs → Covers asked given xs)
    → ((m : Mark) → ltb m.done i ≡ true → AllBeyond m new) → (m : Mark)
    → IsThere asked items s out (map (at_item i) (w ∷ ws) ++ rest) m → IsThere asked items s given (new ++ rest) m
still_there asked items s out given i w ws new rest keeps grows later m c = by_cases (ltb m.done i) refl
  where
    T : ℕ × Way → List Way
    T = task_ways items s

    old : List (ℕ × Way)
    old = map (at_item i) (w ∷ ws)

    by_cases : (b : Bool) → ltb m.done i ≡ b → IsThere asked items s given (new ++ rest) m
    by_cases true e =
        let opened = beyond_all m old rest (beyond_here m i (w ∷ ws) e) in
        let before : Covers asked (out ++ flat_map T (old ++ beyond m rest)) (follows items s m) = subst
        (λ l. Covers asked (out ++ flat_map T l) (follows items s m)) opened c in
        let after = covers_same asked (out ++ flat_map T (old ++ beyond m rest)) (given ++ flat_map T (new ++ beyond m rest))
        (follows items s m) (sym (keeps (beyond m rest)).same) before in
        subst (λ l. Covers asked (given ++ flat_map T l) (follows items s m)) (sym (beyond_all m new rest (later m e))) after
    by_cases false e =
        let none : beyond m (old ++ rest) ≡ [] = ap
        (λ b. elim b [ true ↦ at_item i w ∷ beyond m (map (at_item i) ws ++ rest) | false ↦ [] ]) e in
        let alone = covers_alone asked out (follows items s m)
        (subst (λ l. Covers asked (out ++ flat_map T l) (follows items s m)) none c) in
        covers_more asked given (flat_map T (beyond m (new ++ rest))) (follows items s m) (grows (follows items s m) alone)

met_step : (asked : List Bool) (items : List Node) (s : List ℕ) (whole out given : List Way) (i : ℕ) (w : Way) (ws : List Way)
    (new rest : List (ℕ × Way)) (marks : List Mark)
    → KeepFront asked items s out given (map (at_item i) (w ∷ ws)) new
    → ((xs : List Way) → Covers asked out xs → Covers asked given xs)
    → ((m : Mark) → ltb m.done i ≡ true → AllBeyond m new)
    → Met asked items s whole out (map (at_item i) (w ∷ ws) ++ rest) marks → Met asked items s whole given (new ++ rest) marks
met_step asked items s whole out given i w ws new rest marks keeps grows later h = record {
  kept = keeps_through asked whole (out ++ flat_map (task_ways items s) (map (at_item i) (w ∷ ws) ++ rest))
      (given ++ flat_map (task_ways items s) (new ++ rest)) h.kept (keeps rest);
  there = each_map (IsThere asked items s out (map (at_item i) (w ∷ ws) ++ rest)) (IsThere asked items s given (new ++ rest)) marks
      (still_there asked items s out given i w ws new rest keeps grows later) h.there;
}

-- the ways of a run but the first
abbrev rest_of : Ahead → List Way
rest_of next = other_ways next.run.end next.run.shorter (groups_at next.run)

-- the way of a run that is taken up, and the others
opened : (next : Ahead) (left rest : List Left) → Comes next left rest
    → tasks left ≡ map (at_item next.item) ((mark_of next).way ∷ rest_of next) ++ tasks rest
opened next left rest popped =
    popped
    ∙ ap (λ l. map (at_item next.item) l ++ tasks rest) (first_and_others next.run.end next.run.shorter (groups_at next.run))

-- with a way taken out in front, and others put there
front_of : (asked : List Bool) (items : List Node) (s : List ℕ) (out given : List Way) (i : ℕ) (w : Way) (ws : List Way)
    (new : List (ℕ × Way))
    → ((Y : List Way) → KeepsFirsts asked (out ++ (task_ways items s (i, w) ++ Y)) (given ++ (flat_map (task_ways items s) new ++ Y)))
    → KeepFront asked items s out given (map (at_item i) (w ∷ ws)) (new ++ map (at_item i) ws)
front_of asked items s out given i w ws new keeps X =
    let T = task_ways items s in
    let Y = flat_map T (map (at_item i) ws ++ X) in
    let split : flat_map T ((new ++ map (at_item i) ws) ++ X) ≡ flat_map T new ++ Y = ap (flat_map T)
    (append_assoc new (map (at_item i) ws) X) ∙ flat_map-append T new (map (at_item i) ws ++ X) in
    subst (λ l. KeepsFirsts asked (out ++ (T (i, w) ++ Y)) (given ++ l)) (sym split) (keeps Y)

later_and_here : (m : Mark) (i j : ℕ) (kept ws : List Way) → ltb m.done i ≡ true → i ≤ j
    → AllBeyond m (map (at_item j) kept ++ map (at_item i) ws)
later_and_here m i j kept ws e le = beyond_append m (map (at_item j) kept) (map (at_item i) ws)
    (beyond_here m j kept (grind (arith, nat_tests))) (beyond_here m i ws e)

each_set : (P : Mark → Type 0) (ms : List Mark) (i : ℕ) (m : Mark) → EachMark P ms → P m → EachMark P (slice_set ms i m)
each_set P [] i m h p = tt
each_set P (x ∷ ms) zero m h p = (p, h.1)
each_set P (x ∷ ms) (suc i) m h p = (h.0, each_set P ms i m h.1 p)

covers_head : (asked : List Bool) (out xs ys : List Way) → Covers asked out (xs ++ ys) → Covers asked out xs
covers_head asked out [] ys c = tt
covers_head asked out (x ∷ xs) ys c = (c.0, covers_head asked out xs ys c.1)

covers_joined : (asked : List Bool) (out xs ys : List Way) → Covers asked out xs → Covers asked out ys → Covers asked out (xs ++ ys)
covers_joined asked out [] ys c d = d
covers_joined asked out (x ∷ xs) ys c d = (c.0, covers_joined asked out xs ys c.1 d)

-- what was marked, with one more mark
may_mark : (asked : List Bool) (items : List Node) (s : List ℕ) (whole out : List Way) (left : List (ℕ × Way)) (mark : Mark)
    (old new : List Mark) → MayMark mark old new → IsThere asked items s out left mark → Met asked items s whole out left old
    → Met asked items s whole out left new
may_mark asked items s whole out left mark old new (inl e) here h = subst (λ l. Met asked items s whole out left l) (sym e) h
may_mark asked items s whole out left mark old new (inr (inl e)) here h = subst (λ l. Met asked items s whole out left l) (sym e) (record {
  kept = h.kept;
  there = each_push (IsThere asked items s out left) old mark h.there here;
})
may_mark asked items s whole out left mark old new (inr (inr e)) here h =
    let set : Met asked items s whole out left (slice_set old e.0 mark) = record {
      kept = h.kept;
      there = each_set (IsThere asked items s out left) old e.0 mark h.there here;
    } in
    subst (λ l. Met asked items s whole out left l) (sym e.1) set

both_lists : (f : Way → ℕ × Way) (T : ℕ × Way → List Way) (xs ys : List Way)
    → flat_map T (map f (xs ++ ys)) ≡ flat_map T (map f xs) ++ flat_map T (map f ys)
both_lists f T [] ys = refl
both_lists f T (x ∷ xs) ys = ap (λ l. T (f x) ++ l) (both_lists f T xs ys)
    ∙ sym (append_assoc (T (f x)) (flat_map T (map f xs)) (flat_map T (map f ys)))

-- a way like one that met the same item before leads to what that one led to, the way that is taken up or another one
covers_here : (asked : List Bool) (items : List Node) (s : List ℕ) (out : List Way) (i : ℕ) (w v : Way) (ws : List Way)
    (rest : List (ℕ × Way)) (marks : List Mark) → RefersWithin asked (sequence_of items)
    → HasMet asked marks (record { done = i; way = v })
    → EachMark (IsThere asked items s out (map (at_item i) (w ∷ ws) ++ rest)) marks → Covers asked out (task_ways items s (i, v))
covers_here asked items s out i w v ws rest marks r has there =
    let b = has.0 in
    let u : Mark = record { done = i; way = v } in
    let m = each_has (IsThere asked items s out (map (at_item i) (w ∷ ws) ++ rest)) b asked marks u has.2 there in
    let same = both_left (eqb (rank b m.0.done) (rank b i)) (alike asked m.0.way v) m.1 in
    let like = both_right (eqb (rank b m.0.done) (rank b i)) (alike asked m.0.way v) m.1 in
    let one : m.0.done ≡ i = one_item b m.0.done i has.1 same in
    let apart : ltb m.0.done i ≡ false = grind (arith, nat_tests) in
    let none : beyond m.0 (map (at_item i) (w ∷ ws) ++ rest) ≡ [] = ap
    (λ c. elim c [ true ↦ at_item i w ∷ beyond m.0 (map (at_item i) ws ++ rest) | false ↦ [] ]) apart in
    let alone = covers_alone asked out (follows items s m.0)
    (subst (λ l. Covers asked (out ++ flat_map (task_ways items s) l) (follows items s m.0)) none m.2) in
    let at : Covers asked out (task_ways items s (i, m.0.way)) = subst (λ k. Covers asked out (task_ways items s (k, m.0.way))) one alone
    in
    covers_like asked out (task_ways items s (i, m.0.way)) (task_ways items s (i, v))
    (even_at asked (ways (sequence_of (drop i items)) s) (even_ways asked (sequence_of (drop i items)) (rest_within asked items i r) s)
    m.0.way v like) at
  where
    as_it_is : (b : Bounds) (k : ℕ) → b.unbounded ≡ false → rank b k ≡ k
    as_it_is b k e = ap (λ u. elim (u && (leb b.least k && ltb 0 k)) [ true ↦ max b.least 1 | false ↦ k ]) e

    one_item : (b : Bounds) (k l : ℕ) → b.unbounded ≡ false → eqb (rank b k) (rank b l) ≡ true → k ≡ l
    one_item b k l e same =
        let one = as_it_is b k e in
        let other = as_it_is b l e in
        let f : rank b k ≡ rank b l = grind (arith, nat_tests) in
        sym one ∙ f ∙ other

covers_met : (asked : List Bool) (items : List Node) (s : List ℕ) (out : List Way) (i : ℕ) (w : Way) (ws : List Way)
    (rest : List (ℕ × Way)) (marks : List Mark) → RefersWithin asked (sequence_of items)
    → HasMet asked marks (record { done = i; way = w })
    → EachMark (IsThere asked items s out (map (at_item i) (w ∷ ws) ++ rest)) marks → Covers asked out (task_ways items s (i, w))
covers_met asked items s out i w ws rest marks r has there = covers_here asked items s out i w w ws rest marks r has there

-- The steps of the search

pub taken_ahead : (asked : List Bool) (items : List Node) (s : List ℕ) (part : Node) (next : Ahead) (left rest new : List Left)
    (whole out : List Way) (seen seen' : Seen) → RefersWithin asked (sequence_of items) → next.item < length items
    → part ≡ get_or items next.item part → Comes next left rest
    → TakenAhead asked (tree_of part) s next seen seen' rest new
    → Met asked items s whole out (tasks left) seen.marks.items → Met asked items s whole out (tasks new) seen'.marks.items
taken_ahead asked items s part next left rest new whole out seen seen' r h at popped (inl up) met =
    let T = task_ways items s in
    let i = next.item in
    let w = (mark_of next).way in
    let ws = rest_of next in
    let all = by_end (ways (tree_of part) s next.run.end (groups_at next.run next.run.end)) in
    let kept = up.1.0 in
    let children = map (at_item (i + 1)) kept in
    let gives : T (i, w) ≡ flat_map T (map (at_item (i + 1)) all) = followed items s i part w h at in
    let keeps : KeepsFirsts asked (T (i, w)) (flat_map T children) =
    subst (λ l. KeepsFirsts asked l (flat_map T children)) (sym gives)
    (subst (λ l. KeepsFirsts asked (flat_map T (map (at_item (i + 1)) all)) (flat_map T l)) (append-nil children)
    (subst (λ l. KeepsFirsts asked (flat_map T l) (flat_map T (children ++ []))) (append-nil (map (at_item (i + 1)) all))
    (kept_tasks asked items s (i + 1) all kept [] r up.1.1))) in
    let front = front_of asked items s out out i w ws children
    (λ Y. keeps_after asked out (T (i, w) ++ Y) (flat_map T children ++ Y)
    (keeps_before asked (T (i, w)) (flat_map T children) Y keeps)) in
    let stepped = met_step asked items s whole out out i w ws (children ++ map (at_item i) ws) (tasks rest) seen.marks.items front
    (λ xs c. c) (λ m e. later_and_here m i (i + 1) kept ws e (omega arith))
    (subst (λ l. Met asked items s whole out l seen.marks.items) (opened next left rest popped) met) in
    let is : (children ++ map (at_item i) ws) ++ tasks rest ≡ tasks new = append_assoc children (map (at_item i) ws) (tasks rest)
    ∙ sym up.1.2 in
    let mark : Mark = record { done = i; way = w } in
    let first : AllBeyond mark children = beyond_here mark (i + 1) kept (grind (arith, nat_tests)) in
    let split : flat_map T (beyond mark (children ++ (map (at_item i) ws ++ tasks rest))) ≡ flat_map T children ++ flat_map T
    (beyond mark (map (at_item i) ws ++ tasks rest)) =
    ap (flat_map T) (beyond_all mark children (map (at_item i) ws ++ tasks rest) first)
    ∙ flat_map-append T children (beyond mark (map (at_item i) ws ++ tasks rest)) in
    let there = covers_more asked (flat_map T children) (flat_map T (beyond mark (map (at_item i) ws ++ tasks rest))) (T (i, w))
    (covers_all asked (T (i, w)) (flat_map T children) (sym keeps.same)) in
    let here : IsThere asked items s out (tasks new) mark =
    subst (λ l. Covers asked (out ++ flat_map T (beyond mark l)) (T (i, w))) (sym up.1.2)
    (covers_after asked out (flat_map T (beyond mark (children ++ (map (at_item i) ws ++ tasks rest)))) (T (i, w))
    (subst (λ l. Covers asked l (T (i, w))) (sym split) there)) in
    may_mark asked items s whole out (tasks new) mark seen.marks.items seen'.marks.items up.0 here
    (subst (λ l. Met asked items s whole out l seen.marks.items) is stepped)
taken_ahead asked items s part next left rest new whole out seen seen' r h at popped (inr (inl up)) met =
    let T = task_ways items s in
    let i = next.item in
    let w = (mark_of next).way in
    let ws = rest_of next in
    let front_way = subst (λ l. Met asked items s whole out l seen.marks.items) (opened next left rest popped) met in
    let covered = covers_met asked items s out i w ws (tasks rest) seen.marks.items r up.0 front_way.there in
    let front = front_of asked items s out out i w ws [] (λ Y. keeps_uncovered asked out (T (i, w)) Y covered) in
    let stepped = met_step asked items s whole out out i w ws (map (at_item i) ws) (tasks rest) seen.marks.items front (λ xs c. c)
    (λ m e. beyond_here m i ws e) front_way in
    subst (λ l. Met asked items s whole out (tasks new) l) (sym up.1)
    (subst (λ l. Met asked items s whole out l seen.marks.items) (sym up.2) stepped)
taken_ahead asked items s part next left rest new whole out seen seen' r h at popped (inr (inr up)) met =
    let T = task_ways items s in
    let i = next.item in
    let w = (mark_of next).way in
    let ws = rest_of next in
    let mark : Mark = record { done = i; way = w } in
    let v : Way = (up.1.0, w.1) in
    let shared = up.1.1 in
    let own = up.1.2 in
    let ones = up.1.3 in
    let S = flat_map T (map (at_item (i + 1)) shared) in
    let O = flat_map T (map (at_item (i + 1)) own) in
    let gives : T (i, w) ≡ S ++ O = followed items s i part w h at ∙ ap (λ l. flat_map T (map (at_item (i + 1)) l)) up.1.5
    ∙ both_lists (at_item (i + 1)) T shared own in
    let given : T (i, v) ≡ S ++ flat_map T (map (at_item (i + 1)) ones) = followed items s i part v h at
    ∙ ap (λ l. flat_map T (map (at_item (i + 1)) l)) up.1.6 ∙ both_lists (at_item (i + 1)) T shared ones in
    let front_way = subst (λ l. Met asked items s whole out l seen.marks.items) (opened next left rest popped) met in
    let covered : Covers asked out S = covers_head asked out S (flat_map T (map (at_item (i + 1)) ones))
    (subst (λ l. Covers asked out l) given
    (covers_here asked items s out i w v ws (tasks rest) seen.marks.items r up.1.4 front_way.there)) in
    let children = map (at_item (i + 1)) own in
    let front = front_of asked items s out out i w ws children
    (λ Y. subst (λ l. KeepsFirsts asked (out ++ l) (out ++ (O ++ Y)))
    (sym (append_assoc S O Y) ∙ ap (λ l. l ++ Y) (sym gives)) (keeps_uncovered asked out S (O ++ Y) covered)) in
    let stepped = met_step asked items s whole out out i w ws (children ++ map (at_item i) ws) (tasks rest) seen.marks.items front
    (λ xs c. c) (λ m e. later_and_here m i (i + 1) own ws e (omega arith)) front_way in
    let is : (children ++ map (at_item i) ws) ++ tasks rest ≡ tasks new = append_assoc children (map (at_item i) ws) (tasks rest)
    ∙ sym up.1.7 in
    let first : AllBeyond mark children = beyond_here mark (i + 1) own (grind (arith, nat_tests)) in
    let split : flat_map T (beyond mark (children ++ (map (at_item i) ws ++ tasks rest))) ≡ O ++ flat_map T
    (beyond mark (map (at_item i) ws ++ tasks rest)) =
    ap (flat_map T) (beyond_all mark children (map (at_item i) ws ++ tasks rest) first)
    ∙ flat_map-append T children (beyond mark (map (at_item i) ws ++ tasks rest)) in
    let there : Covers asked (out ++ flat_map T (beyond mark (children ++ (map (at_item i) ws ++ tasks rest)))) O =
    covers_after asked out (flat_map T (beyond mark (children ++ (map (at_item i) ws ++ tasks rest)))) O
    (subst (λ l. Covers asked l O) (sym split)
    (covers_more asked O (flat_map T (beyond mark (map (at_item i) ws ++ tasks rest))) O (covers_itself asked O))) in
    let whole_there : Covers asked (out ++ flat_map T (beyond mark (children ++ (map (at_item i) ws ++ tasks rest)))) (T (i, w)) =
    subst (λ l. Covers asked (out ++ flat_map T (beyond mark (children ++ (map (at_item i) ws ++ tasks rest)))) l) (sym gives)
    (covers_joined asked (out ++ flat_map T (beyond mark (children ++ (map (at_item i) ws ++ tasks rest)))) S O
    (covers_more asked out (flat_map T (beyond mark (children ++ (map (at_item i) ws ++ tasks rest)))) S covered) there) in
    let here : IsThere asked items s out (tasks new) mark =
    subst (λ l. Covers asked (out ++ flat_map T (beyond mark l)) (T (i, w))) (sym up.1.7) whole_there in
    may_mark asked items s whole out (tasks new) mark seen.marks.items seen'.marks.items up.0 here
    (subst (λ l. Met asked items s whole out l seen.marks.items) is stepped)

-- a way that has met all items gives itself
task_done : (items : List Node) (s : List ℕ) (i : ℕ) (w : Way) → length items ≤ i → task_ways items s (i, w) ≡ w ∷ []
task_done items s i w h = ap (λ l. ways (sequence_of l) s w.0 w.1) (drop_all i items h)

-- the ways of a run that have met all items are handed out
pub hands_out_all : (asked : List Bool) (items : List Node) (s : List ℕ) (next : Ahead) (left rest : List Left)
    (whole out given : List Way) (marks : List Mark) → length items ≤ next.item → Comes next left rest
    → given ≡ out ++ ways_of next.run
    → Met asked items s whole out (tasks left) marks → Met asked items s whole given (tasks rest) marks
hands_out_all asked items s next left rest whole out given marks h popped put met =
    met_step asked items s whole out given next.item w ws [] (tasks rest) marks front
    (λ xs c. subst (λ l. Covers asked l xs) (sym put) (covers_more asked out (ways_of next.run) xs c)) (λ m e. tt)
    (subst (λ l. Met asked items s whole out l marks) (opened next left rest popped) met)
  where
    T : ℕ × Way → List Way
    T = task_ways items s

    w : Way
    w = (next.run.end, groups_at next.run next.run.end)

    ws : List Way
    ws = other_ways next.run.end next.run.shorter (groups_at next.run)

    all_done : (vs : List Way) → flat_map T (map (at_item next.item) vs) ≡ vs
    all_done [] = refl
    all_done (v ∷ vs) = ap (λ l. l ++ flat_map T (map (at_item next.item) vs)) (task_done items s next.item v h)
        ∙ ap (λ l. v ∷ l) (all_done vs)

    front : KeepFront asked items s out given (map (at_item next.item) (w ∷ ws)) []
    front X =
        let is : flat_map T (map (at_item next.item) (w ∷ ws) ++ X) ≡ ways_of next.run ++ flat_map T X =
        flat_map-append T (map (at_item next.item) (w ∷ ws)) X
        ∙ ap (λ l. l ++ flat_map T X)
        (all_done (w ∷ ws) ∙ sym (first_and_others next.run.end next.run.shorter (groups_at next.run))) in
        keeps_same asked (out ++ flat_map T (map (at_item next.item) (w ∷ ws) ++ X)) (given ++ flat_map T X)
        (ap (λ l. l ++ flat_map T X) put ∙ append_assoc out (ways_of next.run) (flat_map T X) ∙ ap (λ l. out ++ l) (sym is))

-- the first of them is, unless one like it was
pub hands_out_new : (asked : List Bool) (items : List Node) (s : List ℕ) (next : Ahead) (left rest new : List Left)
    (whole out given : List Way) (seen seen' : Seen) → RefersWithin asked (sequence_of items) → length items ≤ next.item
    → Comes next left rest
    → HandedOut asked next seen seen' out given → tasks new ≡ others_of next ++ tasks rest
    → Met asked items s whole out (tasks left) seen.marks.items → Met asked items s whole given (tasks new) seen'.marks.items
hands_out_new asked items s next left rest new whole out given seen seen' r h popped (inl put) others met =
    let T = task_ways items s in
    let i = next.item in
    let w = (mark_of next).way in
    let ws = rest_of next in
    let mark : Mark = record { done = i; way = w } in
    let done : T (i, w) ≡ w ∷ [] = task_done items s i w h in
    let front = front_of asked items s out given i w ws []
    (λ Y. keeps_same asked (out ++ (T (i, w) ++ Y)) (given ++ Y)
    (ap (λ l. l ++ Y) put.1 ∙ append_assoc out (w ∷ []) Y ∙ ap (λ l. out ++ (l ++ Y)) (sym done))) in
    let stepped = met_step asked items s whole out given i w ws (map (at_item i) ws) (tasks rest) seen.marks.items front
    (λ xs c. subst (λ l. Covers asked l xs) (sym put.1) (covers_more asked out (w ∷ []) xs c)) (λ m e. beyond_here m i ws e)
    (subst (λ l. Met asked items s whole out l seen.marks.items) (opened next left rest popped) met) in
    let given_it : Covers asked given (T (i, w)) = subst (λ l. Covers asked given l) (sym done)
    (subst (λ l. Covers asked l (w ∷ [])) (sym put.1)
    (covers_after asked out (w ∷ []) (w ∷ []) (covers_itself asked (w ∷ [])))) in
    let here : IsThere asked items s given (tasks new) mark = covers_more asked given (flat_map T (beyond mark (tasks new))) (T (i, w))
    given_it in
    may_mark asked items s whole given (tasks new) mark seen.marks.items seen'.marks.items put.0 here
    (subst (λ l. Met asked items s whole given l seen.marks.items) (sym others) stepped)
hands_out_new asked items s next left rest new whole out given seen seen' r h popped (inr put) others met =
    let T = task_ways items s in
    let i = next.item in
    let w = (mark_of next).way in
    let ws = rest_of next in
    let front_way = subst (λ l. Met asked items s whole out l seen.marks.items) (opened next left rest popped) met in
    let covered = covers_met asked items s out i w ws (tasks rest) seen.marks.items r put.0 front_way.there in
    let front = front_of asked items s out out i w ws [] (λ Y. keeps_uncovered asked out (T (i, w)) Y covered) in
    let stepped = met_step asked items s whole out out i w ws (map (at_item i) ws) (tasks rest) seen.marks.items front (λ xs c. c)
    (λ m e. beyond_here m i ws e) front_way in
    subst (λ l. Met asked items s whole l (tasks new) seen'.marks.items) (sym put.2)
    (subst (λ l. Met asked items s whole out (tasks new) l) (sym put.1)
    (subst (λ l. Met asked items s whole out l seen.marks.items) (sym others) stepped))

-- ways of a run that lead nowhere are left out
pub left_out : (asked : List Bool) (items : List Node) (s : List ℕ) (whole out : List Way) (i e n : ℕ) (g : ℕ → Groups)
    (vs : List Way) (rest : List (ℕ × Way)) (marks : List Mark)
    → flat_map (task_ways items s) (map (at_item i) vs) ≡ flat_map (task_ways items s) (map (at_item i) (shorter_ways e n g))
    → Met asked items s whole out (map (at_item i) (shorter_ways e n g) ++ rest) marks
    → Met asked items s whole out (map (at_item i) vs ++ rest) marks
left_out asked items s whole out i e n g vs rest marks same met =
    let T = task_ways items s in
    let w : Way = (e, g e) in
    let ws = other_ways e n g in
    let front_way = subst (λ l. Met asked items s whole out (map (at_item i) l ++ rest) marks) (first_and_others e n g) met in
    let all : flat_map T (map (at_item i) vs) ≡ flat_map T (map (at_item i) (w ∷ ws)) = same
    ∙ ap (λ l. flat_map T (map (at_item i) l)) (first_and_others e n g) in
    met_step asked items s whole out out i w ws (map (at_item i) vs) rest marks
    (λ X. keeps_same asked (out ++ flat_map T (map (at_item i) (w ∷ ws) ++ X)) (out ++ flat_map T (map (at_item i) vs ++ X))
    (ap (λ l. out ++ l) (flat_map-append T (map (at_item i) vs) X ∙ ap (λ l. l ++ flat_map T X) all
    ∙ sym (flat_map-append T (map (at_item i) (w ∷ ws)) X))))
    (λ xs c. c) (λ m f. beyond_here m i vs f) front_way

-- where nothing is handed out and nothing is left, what was taken up leads nowhere
pub nothing_there : (asked : List Bool) (items : List Node) (s : List ℕ) (marks : List Mark)
    → EachMark (IsThere asked items s [] []) marks → LeadNowhere items s marks
nothing_there asked items s [] h = tt
nothing_there asked items s (m ∷ marks) h = (none (follows items s m) h.0, nothing_there asked items s marks h.1)
  where
    none : (ws : List Way) → Covers asked [] ws → ws ≡ []
    none [] c = refl
    none (w ∷ ws) c = absurd c.0

pub nowhere_there : (asked : List Bool) (items : List Node) (s : List ℕ) (out : List Way) (left : List (ℕ × Way)) (marks : List Mark)
    → LeadNowhere items s marks → EachMark (IsThere asked items s out left) marks
nowhere_there asked items s out left [] h = tt
nowhere_there asked items s out left (m ∷ marks) h = (
  subst (λ l. Covers asked (out ++ flat_map (task_ways items s) (beyond m left)) l) (sym h.0) tt,
  nowhere_there asked items s out left
      marks h.1,
)

-- What is left gets less

pub taken_falls : (asked : List Bool) (items : List Node) (s : List ℕ) (part : Node) (next : Ahead) (left rest new : List Left)
    (seen seen' : Seen) → next.item < length items → part ≡ get_or items next.item part → Comes next left rest
    → TakenAhead asked (tree_of part) s next seen seen' rest new
    → weight (task_steps items s) (tasks new) < weight (task_steps items s) (tasks left)
taken_falls asked items s part next left rest new seen seen' h at popped (inl up) = followed_falls asked items s part next left rest new h
    at popped up.1
taken_falls asked items s part next left rest new seen seen' h at popped (inr (inr up)) =
    let F = task_steps items s in
    let before = map (at_item next.item) (other_ways next.run.end next.run.shorter (groups_at next.run)) ++ tasks rest in
    let all = by_end (ways (tree_of part) s next.run.end (groups_at next.run next.run.end)) in
    let f = at_item (next.item + 1) in
    let falls = follow_falls items s part next left rest h at popped in
    let a = weight-append F (map f all) before in
    let b = ap (weight F) up.1.7 in
    let c = ap (λ l. weight F (map f l)) up.1.5 in
    let d = weight-two F f up.1.1 up.1.2 in
    let e = weight-append F (map f up.1.2) before in
    omega (arith, falls, a, b, c, d, e)
  where
    weight-two : (F : ℕ × Way → ℕ) (f : Way → ℕ × Way) (xs ys : List Way)
        → weight F (map f (xs ++ ys)) ≡ weight F (map f xs) + weight F (map f ys)
    weight-two F f [] ys = omega arith
    weight-two F f (x ∷ xs) ys = let h = weight-two F f xs ys in omega (arith, h)
taken_falls asked items s part next left rest new seen seen' h at popped (inr (inl up)) =
    let F = task_steps items s in
    let before = map (at_item next.item) (other_ways next.run.end next.run.shorter (groups_at next.run)) ++ tasks rest in
    let found = map (at_item (next.item + 1)) (by_end (ways (tree_of part) s next.run.end (groups_at next.run next.run.end))) in
    let falls = follow_falls items s part next left rest h at popped in
    let a = weight-append F found before in
    let b = ap (weight F) up.2 in
    omega (arith, falls, a, b)

pub others_fall : (items : List Node) (s : List ℕ) (next : Ahead) (left rest new : List Left) → Comes next left rest
    → tasks new ≡ others_of next ++ tasks rest
    → weight (task_steps items s) (tasks new) < weight (task_steps items s) (tasks left)
others_fall items s next left rest new popped others =
    let F = task_steps items s in
    let a : weight F (tasks left) ≡ F (next.item, (next.run.end, groups_at next.run next.run.end)) + weight F (tasks new) = ap
    (weight F) (opened next left rest popped ∙ ap (λ l. at_item next.item (next.run.end, groups_at next.run next.run.end) ∷ l)
    (sym others)) in
    let b = some_steps (sequence_of (drop next.item items)) s (next.run.end, groups_at next.run next.run.end) in
    omega (arith, a, b)

pub narrowed_falls : (asked : List Bool) (items : List Node) (s : List ℕ) (part : Node) (next : Ahead) (ends : ℕ × ℕ)
    (left rest new : List Left) (seen seen' : Seen) → next.item < length items → part ≡ get_or items next.item part
    → Comes next left rest →
    ((f : Way → ℕ) → weight f (ways_of (with_ends next ends).run) ≤ weight f (ways_of next.run))
    → TakenAhead asked (tree_of part) s (with_ends next ends) seen seen' rest new
    → weight (task_steps items s) (tasks new) < weight (task_steps items s) (tasks left)
narrowed_falls asked items s part next ends left rest new seen seen' h at popped fewer put =
    let kept = with_ends next ends in
    let a = taken_falls asked items s part kept (rest ++ stack.Run kept ∷ []) rest new seen seen' h at (tasks_push rest (stack.Run kept)) put in
    let b = taken_steps items s kept (rest ++ stack.Run kept ∷ []) rest (tasks_push rest (stack.Run kept)) in
    let d = taken_steps items s next left rest popped in
    let e = fewer (λ w. task_steps items s (next.item, w)) in
    omega (arith, a, b, d, e)

-- A sequence begins with one way, and ends with none left

pub begins_met : (asked : List Bool) (items : List Node) (s : List ℕ) (p : ℕ) (g : Groups) (none left : List Left) (run : Run)
    (out : List Way) (marks : List Mark) → none ≡ [] → left ≡ none ++ stack.Run (record { item = 0; run = run }) ∷ []
    → ways_of run ≡ (p, g) ∷ [] → marks ≡ []
    → Met asked items s (out ++ ways (sequence_of items) s p g) out (tasks left) marks
begins_met asked items s p g none left run out marks e put r em =
    subst (λ l. Met asked items s (out ++ ways (sequence_of items) s p g) out (tasks left) l) (sym em) (record {
      kept = keeps_same asked (out ++ ways (sequence_of items) s p g) (out ++ flat_map (task_ways items s) (tasks left))
          (ap (λ l. out ++ l) (first_task items s p g none left run e put r));
      there = tt;
    })

pub all_met : (asked : List Bool) (items : List Node) (s : List ℕ) (whole out : List Way) (left : List Left) (marks : List Mark)
    → tasks left ≡ [] → Met asked items s whole out (tasks left) marks → KeepsFirsts asked whole out
all_met asked items s whole out left marks e met =
    let done = subst (λ l. Met asked items s whole out l marks) e met in
    subst (λ l. KeepsFirsts asked whole l) (append-nil out) done.kept
