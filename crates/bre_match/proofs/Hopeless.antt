-- Where nothing is left to take up, no way from the start meets all items.
use Rattle.std.proofs.Common.{◌≡◌, ◌⊎◌, inl, inr, ℕ, zero, suc, ◌+◌, ◌<◌, List, [], ◌∷◌, ◌++◌, map, flat_map, length, drop, reverse, Option, None, Bool, true, false, leb, eqb, refl, ap, sym, ◌∙◌, subst, arith}
use Rattle.std.specs.Prelude.{◌&&◌}
use Rattle.std.proofs.lemmas.Bool.Decides.{nat_tests}
use Rattle.std.proofs.lemmas.List.{drop_more, length-drop}
use Rattle.bre_parse.specs.declared.tree.Node.{Node}
use Rattle.bre_parse.specs.Tree.{Tree, Empty, Then, Set, TextStart, TextEnd, BackReference, Group, Repeat, tree_of, sequence_of}
use Rattle.bre_parse.specs.Groups.{Groups, cleared, no_groups}
use Rattle.bre_parse.specs.Match.{first, longest_from}
use Rattle.bre_parse.specs.Ways.{Way, Body, ways, turns, enough, fresh_turn, next_turn, after_turn, stopped_or_on, from_way, below, only_if, by_end}
use Rattle.bre_match.specs.declared.left.Left.{Left}
use Rattle.bre_match.specs.declared.seen.Mark.{Mark}
use Rattle.bre_match.specs.declared.turn.Turn.{Turn}
use Rattle.bre_match.specs.declared.turn.Turn.TheVariants as turn
use Rattle.bre_match.specs.Outlooks.{Stage, Before, Within, Begun, first_part, after_begun, ended_or_begun, next_stages, Each, IsRepeat, NothingWithin}
use Rattle.bre_match.specs.Runs.{tasks}
use Rattle.bre_match.specs.Turns.{turn_if, ended_or_next, after_way}
use Rattle.bre_match.proofs.Each.{each_map, each_append, each_before_map, each_of_all, each_before_all, each_for_all, each_by_end}
use Rattle.bre_match.proofs.Outlooks.{fewer}
use Rattle.bre_match.proofs.LeftTells.{NoWays, NoMet, NoBegun, Tells}

pub first_tells : (items : List Node) (at : ℕ) (s : List ℕ) (start : ℕ) (met begun : List Mark) (left : List (ℕ × Way))
    (turns : List Turn)
    → left ≡ (0, (start, no_groups)) ∷ [] → ((n : ℕ) → NoMet n items at s met × NoBegun n items at s begun)
    → Tells items at s start met begun left turns
first_tells items at s start met begun left turns put nothing n ws ts =
    let ws' : NoWays n items at s ((0, (start, no_groups)) ∷ []) = subst (λ l. NoWays n items at s l) put ws in
    (ws'.0, nothing (suc n))

pub seen_come_to_nothing : (items : List Node) (at : ℕ) (s : List ℕ) (start : ℕ) (met begun : List Mark)
    → Tells items at s start met begun [] []
    → (n : ℕ) → NoMet n items at s met × NoBegun n items at s begun
seen_come_to_nothing items at s start met begun told n =
    let all = told n tt tt in (
      each_map (λ mark. NothingWithin (suc n) items at s (Before mark.done mark.way)) (λ mark. NothingWithin n items at s
          (Before mark.done mark.way)) met
          (λ mark. fewer items at s n (Before mark.done mark.way)) all.1.0,
      each_map (λ mark. NothingWithin (suc n) items at s (Begun mark)) (λ mark. NothingWithin n items at s (Begun mark)) begun
          (λ mark. fewer items at s n (Begun mark)) all.1.1,
    )

-- nothing comes of a stage, whatever the number of steps
abbrev Hopeless : List Node → ℕ → List ℕ → Stage → Type 0
Hopeless items at s x = (n : ℕ) → NothingWithin n items at s x

hopeless_next : (items : List Node) (at : ℕ) (s : List ℕ) (x : Stage) → Hopeless items at s x → Each (Hopeless items at s)
    (next_stages items at s x)
hopeless_next items at s x h = each_for_all (λ n y. NothingWithin n items at s y) (next_stages items at s x) (λ n. (h (suc n)).1)

all_none : (F : Way → List Way) (ws : List Way) → Each (λ w. F w ≡ []) ws → flat_map F ws ≡ []
all_none F [] h = refl
all_none F (w ∷ ws) h = ap (λ l. l ++ flat_map F ws) h.0 ∙ all_none F ws h.1

none_left : (items : List Node) (i : ℕ) → drop i items ≡ [] → i < length items → ⊥
none_left items i e lt = let n = length-drop i items in let m : length (drop i items) ≡ 0 = ap length e in omega (arith, n, m, lt)

step_on : (items : List Node) (i : ℕ) (x : Node) (xs : List Node) → drop i items ≡ x ∷ xs → i < length items → drop
    (i + 1) items ≡ xs
step_on items i x xs e lt = tail_same (sym (drop_more items i x lt) ∙ e)
  where
    tail_same : {y : Node} {ys zs : List Node} {z : Node} → y ∷ ys ≡ z ∷ zs → ys ≡ zs
    tail_same f = cc

-- where nothing comes of the turns of a repeat, its ways are ones from which nothing comes
turns_lead_nowhere : (items : List Node) (at : ℕ) (s : List ℕ) (least : ℕ) (most : Option ℕ) (t : Tree) (P : Way → Type 0)
    → first_part (drop at items) ≡ Repeat least most t → ((w : Way) → Hopeless items at s (Before (at + 1) w) → P w)
    → (more k : ℕ) (w : Way) → Hopeless items at s (Within (turn.Next k w))
    → Each P (turns more (fresh_turn t (ways t s)) least most k w.0 w.1)
turns_lead_nowhere items at s least most t P is ends = led
  where
    H : Stage → Type 0
    H = Hopeless items at s

    ended : (w : Way) → H (Within (turn.Ended w)) → P w
    ended w h = ends w (hopeless_next items at s (Within (turn.Ended w)) h).0

    ended_if : (c : Bool) (w : Way) → Each (λ x. H (Within x)) (turn_if c (turn.Ended w)) → Each P (only_if c w)
    ended_if true w h = (ended w h.0, tt)
    ended_if false w h = tt

    next : (k : ℕ) (w : Way) → H (Within (turn.Next k w)) → Each H (ended_or_begun (Repeat least most t) k w)
    next k w h = subst (λ r. Each H (ended_or_begun r k w)) is (hopeless_next items at s (Within (turn.Next k w)) h)

    stops : (k : ℕ) (w : Way) → H (Within (turn.Next k w)) → Each P (only_if (leb least k) w)
    stops k w h = ended_if (leb least k) w (each_before_map H Within (turn_if (leb least k) (turn.Ended w)) (next k w h).1)

    begun : (m : Mark) → H (Begun m) → Each (λ x. H (Within x)) (after_begun (Repeat least most t) s m)
    begun m h = each_before_map H Within (after_begun (Repeat least most t) s m)
        (subst (λ r. Each H (map Within (after_begun r s m))) is (hopeless_next items at s (Begun m) h))

    one : (c : Bool) (k : ℕ) (again : Body) (v : Way) → ((w : Way) → H (Within (turn.Next (k + 1) w)) → Each P (again w.0 w.1))
        → Each (λ x. H (Within x)) (ended_or_next c k v) → Each P (stopped_or_on c k again v)
    one true k again v f h = ended_if (eqb k 0) v h
    one false k again v f h = f v h.0

    fresh : (c : Bool) (p : ℕ) (g : Groups) → next_turn c (ways t s) p (cleared t g) ≡ next_turn c (fresh_turn t (ways t s)) p g
    fresh true p g = refl
    fresh false p g = refl

    led : (more k : ℕ) (w : Way) → H (Within (turn.Next k w)) → Each P (turns more (fresh_turn t (ways t s)) least most k w.0 w.1)
    led zero k w h = stops k w h
    led (suc more) k w h =
        let again = turns more (fresh_turn t (ways t s)) least most (k + 1) in
        let N = next_turn (below k most) (ways t s) w.0 (cleared t w.1) in
        let each = each_before_all (λ x. H (Within x)) (after_way least k w.0) N (begun
        (record { done = k; way = (w.0, cleared t w.1) }) (next k w h).0) in
        let follow = each_of_all P (after_turn least k w.0 again) N
        (each_map (λ v. Each (λ x. H (Within x)) (after_way least k w.0 v)) (λ v. Each P (after_turn least k w.0 again v)) N
        (λ v. one (eqb v.0 w.0 && leb least k) k again v (led more (k + 1))) each) in
        let F = subst (λ l. Each P (flat_map (after_turn least k w.0 again) l)) (fresh (below k most) w.0 w.1) follow in
        each_by_end P (flat_map (after_turn least k w.0 again) (next_turn (below k most) (fresh_turn t
        (ways t s)) w.0 w.1) ++ only_if (leb least k) w)
        (each_append P (flat_map (after_turn least k w.0 again) (next_turn (below k most) (fresh_turn t (ways t s)) w.0 w.1))
        (only_if (leb least k) w)
        F (stops k w h))

-- an item's ways, where nothing comes of a way before it
item_leads_nowhere : (items : List Node) (at : ℕ) (s : List ℕ) (x : Node) (xs : List Node) (i : ℕ) (w : Way)
    → drop i items ≡ x ∷ xs
    → Hopeless items at s (Before i w)
    → ((v : Way) → Hopeless items at s (Before (i + 1) v) → ways (sequence_of xs) s v.0 v.1 ≡ [])
    → Each (λ v. ways (sequence_of xs) s v.0 v.1 ≡ []) (by_end (ways (tree_of x) s w.0 w.1))
item_leads_nowhere items at s x xs i w e h on = by_cases (eqb i at) refl
  where
    H : Stage → Type 0
    H = Hopeless items at s

    D : Way → Type 0
    D v = ways (sequence_of xs) s v.0 v.1 ≡ []

    is : first_part (drop i items) ≡ tree_of x
    is = ap first_part e

    of_repeat : (t : Tree) → first_part (drop at items) ≡ t → i ≡ at → H (Within (turn.Next 0 w)) → Each D (ways t s w.0 w.1)
    of_repeat (Repeat least most t) same here f = turns_lead_nowhere items at s least most t D same
        (λ v g. on v (subst (λ j. H (Before (j + 1) v)) (sym here) g)) (enough least s w.0) 0 w f
    of_repeat Empty same here f = absurd (subst IsRepeat same (f 1).0)
    of_repeat (Then a b) same here f = absurd (subst IsRepeat same (f 1).0)
    of_repeat (Set n ranges) same here f = absurd (subst IsRepeat same (f 1).0)
    of_repeat TextStart same here f = absurd (subst IsRepeat same (f 1).0)
    of_repeat TextEnd same here f = absurd (subst IsRepeat same (f 1).0)
    of_repeat (BackReference j) same here f = absurd (subst IsRepeat same (f 1).0)
    of_repeat (Group j c) same here f = absurd (subst IsRepeat same (f 1).0)

    by_cases : (b : Bool) → eqb i at ≡ b → Each D (by_end (ways (tree_of x) s w.0 w.1))
    by_cases false apart =
        let steps = subst (λ b. Each H (elim b [
          | true ↦ Within (turn.Next 0 w) ∷ []
          | false ↦ map (Before (i + 1)) (by_end
              (ways (first_part (drop i items)) s w.0 w.1))
        ]))
        apart (hopeless_next items at s (Before i w) h) in
        let each = each_before_map H (Before (i + 1)) (by_end (ways (first_part (drop i items)) s w.0 w.1)) steps in
        subst (λ t. Each D (by_end (ways t s w.0 w.1))) is
        (each_map (λ v. H (Before (i + 1) v)) D (by_end (ways (first_part (drop i items)) s w.0 w.1)) on each)
    by_cases true meets =
        let steps = subst (λ b. Each H (elim b [
          | true ↦ Within (turn.Next 0 w) ∷ []
          | false ↦ map (Before (i + 1)) (by_end
              (ways (first_part (drop i items)) s w.0 w.1))
        ]))
        meets (hopeless_next items at s (Before i w) h) in
        let here : i ≡ at = grind (arith, nat_tests) in
        each_by_end D (ways (tree_of x) s w.0 w.1) (of_repeat (tree_of x) (ap (λ j. first_part (drop j items)) (sym here)
        ∙ is) here steps.0)

-- where nothing comes of a way, no way leads through the items that are left
leads_nowhere : (items : List Node) (at : ℕ) (s : List ℕ) (xs : List Node) (i : ℕ) (w : Way) → drop i items ≡ xs
    → Hopeless items at s (Before i w) → ways (sequence_of xs) s w.0 w.1 ≡ []
leads_nowhere items at s [] i w e h = absurd (none_left items i e (h 1).0)
leads_nowhere items at s (x ∷ xs) i w e h =
    all_none (from_way (ways (sequence_of xs) s)) (by_end (ways (tree_of x) s w.0 w.1))
    (item_leads_nowhere items at s x xs i w e h (λ v g. leads_nowhere items at s xs (i + 1) v (step_on items i x xs e (h 1).0) g))

pub no_match : (items : List Node) (at : ℕ) (s : List ℕ) (start : ℕ) (met begun : List Mark)
    → Tells items at s start met begun [] []
    → longest_from (sequence_of items) s start ≡ None
no_match items at s start met begun told =
    ap (λ l. first (by_end l)) (leads_nowhere items at s items 0 (start, no_groups) refl (λ n. (told n tt tt).0))

pub nothing_left : (items : List Node) (at : ℕ) (s : List ℕ) (start : ℕ) (met begun : List Mark) (left : List Left)
    (turns : List Turn)
    → tasks left ≡ [] → length turns ≡ 0 → Tells items at s start met begun (tasks left) (reverse turns)
    → Tells items at s start met begun [] []
nothing_left items at s start met begun left [] e f told = subst (λ l. Tells items at s start met begun l []) e told
nothing_left items at s start met begun left (x ∷ turns) e f told = absurd (omega arith)

pub kept_at_most : (P : Mark → Type 0) (old new : List Mark) → (new ≡ []) ⊎ (new ≡ old) → Each P old → Each P new
kept_at_most P old new (inl e) h = subst (Each P) (sym e) tt
kept_at_most P old new (inr e) h = subst (Each P) (sym e) h
