-- The groups of the first way to an end, read off from the outside: the laws that carry it, in terms of what parts reach.
use Rattle.std.proofs.Common.{◌≡◌, ℕ, zero, suc, ◌+◌, ◌-◌, ◌<◌, ◌≤◌, ◌⊎◌, inl, inr, List, [], ◌∷◌, length, Option, Some, true, false, eqb, leb, refl, ap, sym, ◌∙◌, subst, arith}
use Rattle.std.proofs.lemmas.Bool.Decides.{nat_tests}
use Rattle.std.specs.Prelude.{◌&&◌}
use Rattle.bre_parse.specs.Tree.{Tree, Then}
use Rattle.bre_parse.specs.Groups.{Groups, cleared}
use Rattle.bre_parse.specs.Ways.{Way, Body, ways, turns, fresh_turn, after_turn, stopped_or_on, below}
use Rattle.bre_parse.specs.WellFormed.{repeats_in_order}
use Rattle.bre_parse.specs.Groups.{refers}
use Rattle.bre_parse.specs.Laws.{first_to}
use Rattle.bre_match.specs.Parts.{Power, Reaches, part_of}
use Rattle.bre_match.specs.Laws.{Has}
use Rattle.bre_match.specs.Tables.{Within}
use Rattle.bre_match.proofs.Columns.{forth}
use Rattle.bre_match.proofs.WaysReach.{turns_reach, reach_turns, within_next, has_next, has_only}
use Rattle.bre_match.specs.Tables.{Turned}
use Rattle.bre_match.proofs.TreeReach.{ways_reach, reach_ways, reach_within, both_left, both_right, none_left, none_right}
use Rattle.bre_match.proofs.FirstWay.{first_there, first_in_sequence, first_with_turn, first_without_turn}

-- A sequence: the first item goes to its greatest end from which the rest reaches the end, by its first way there.
pub groups_in_sequence : (a b : Tree) → refers (Then a b) ≡ false → repeats_in_order (Then a b) ≡ true → (s : List ℕ) (p m q : ℕ) (g : Groups) (v : Way) → p ≤ length s → first_to m (ways a s p g) ≡ Some v → Reaches (part_of b) s m q → ((n : ℕ) → m < n → Reaches (part_of a) s p n → Reaches (part_of b) s n q → ⊥) → first_to q (ways (Then a b) s p g) ≡ first_to q (ways b s m v.1)
groups_in_sequence a b free order s p m q g v le is on last =
    let fa = none_left (refers a) (refers b) free in
    let fb = none_right (refers a) (refers b) free in
    let oa = both_left (repeats_in_order a) (repeats_in_order b) order in
    let ob = both_right (repeats_in_order a) (repeats_in_order b) order in
    let there = first_there m (ways a s p g) v is in
    let inside = reach_within (part_of a) s p m le (ways_reach a fa oa s p m g there.1) in
    first_in_sequence a b s p m q g v is
    (reach_ways b fb ob s v.0 q v.1 (subst (λ x. x ≤ length s) (sym there.0) inside) (subst (λ x. Reaches (part_of b) s x q) (sym there.0) on))
    (λ w lt i j. last w.0 lt (ways_reach a fa oa s p w.0 g i) (ways_reach b fb ob s w.0 q w.1 j))
    ∙ ap (λ x. first_to q (ways b s x v.1)) there.0

-- what follows a way of a turn that isn't idle
busy_after : (least done p : ℕ) (again : Body) (w : Way) → (eqb w.0 p && leb least done) ≡ false → after_turn least done p again w ≡ again w.0 w.1
busy_after least done p again w e = ap (λ b. stopped_or_on b done again w) e

after_is_busy : (least done p n : ℕ) → p < n → (eqb n p && leb least done) ≡ false
after_is_busy least done p n lt = let e : eqb n p ≡ false = grind (arith, nat_tests) in rw e refl

-- A repeat: a turn that isn't idle goes to its greatest end from which the repeat, with one more turn done, reaches the end.
pub groups_in_turn : (c : Tree) → refers c ≡ false → repeats_in_order c ≡ true → (s : List ℕ) (least : ℕ) (most : Option ℕ) (fuel done p m q : ℕ) (g : Groups) (v : Way) → p ≤ length s → below done most ≡ true → first_to m (ways c s p (cleared c g)) ≡ Some v → (eqb m p && leb least done) ≡ false → suc ((least - (done + 1)) + (length s - m)) ≤ fuel → Turned (Reaches (part_of c) s) least most (done + 1) m q → ((n : ℕ) → m < n → Reaches (part_of c) s p n → Turned (Reaches (part_of c) s) least most (done + 1) n q → ⊥) → first_to q (turns (suc fuel) (fresh_turn c (ways c s)) least most done p g) ≡ first_to q (turns fuel (fresh_turn c (ways c s)) least most (done + 1) m v.1)
groups_in_turn c free order s least most fuel done p m q g v le may is busy room on last =
    let body = fresh_turn c (ways c s) in
    let again = turns fuel body least most (done + 1) in
    let there = first_there m (ways c s p (cleared c g)) v is in
    let to_m = ways_reach c free order s p m (cleared c g) there.1 in
    let up = forth (part_of c) s p m to_m in
    let inside = reach_within (part_of c) s p m le to_m in
    let busy_v : (eqb v.0 p && leb least done) ≡ false = ap (λ x. eqb x p && leb least done) there.0 ∙ busy in
    let v_in : v.0 ≤ length s = subst (λ x. x ≤ length s) (sym there.0) inside in
    let goes = reach_turns (Reaches (part_of c) s) body (length s)
    (λ x y lx j. (forth (part_of c) s x y j, reach_within (part_of c) s x y lx j))
    (λ x y k lx j. reach_ways c free order s x y (cleared c k) lx j)
    least most on.0 fuel (done + 1) v.0 q v.1 v_in (subst (λ x. suc ((least - (done + 1)) + (length s - x)) ≤ fuel) (sym there.0) room) on.1 on.2 (subst (λ x. Power (Reaches (part_of c) s) on.0 x q) (sym there.0) on.3) in
    first_with_turn body least most fuel done p m q g v may is
    (subst (λ l. Has q l) (sym (busy_after least done p again v busy_v)) goes)
    (λ w lt i j. last w.0 lt (ways_reach c free order s p w.0 (cleared c g) i)
    (turns_reach (Reaches (part_of c) s) body (λ x y k h. ways_reach c free order s x y (cleared c k) h) least most fuel (done + 1) w.0 q w.1 (within_next most done may)
    (subst (λ l. Has q l) (busy_after least done p again w (after_is_busy least done p w.0 (omega arith))) j)))
    ∙ ap (λ l. first_to q l) (busy_after least done p again v busy_v)
    ∙ ap (λ x. first_to q (turns fuel body least most (done + 1) x v.1)) there.0

here_or_on : (m n : ℕ) → m ≤ n → (n ≡ m) ⊎ (m < n)
here_or_on m n l = grind arith

pub turned_forth : (R : ℕ → ℕ → Type 0) → ((p q : ℕ) → R p q → p ≤ q) → (k p q : ℕ) → Power R k p q → p ≤ q
turned_forth R all zero p q h = omega arith
turned_forth R all (suc k) p q h =
    let a = all p h.0 h.1 in
    let b = turned_forth R all k h.0 q h.2 in
    omega arith

-- A repeat's end: nothing more is done, and the groups stay, unless a first turn may be idle.
pub groups_at_stop : (c : Tree) → refers c ≡ false → repeats_in_order c ≡ true → (s : List ℕ) (least : ℕ) (most : Option ℕ) (fuel done p : ℕ) (g : Groups) → least ≤ done → (done ≡ 0 → below done most ≡ true → Reaches (part_of c) s p p → ⊥) → Within most done → first_to p (turns (suc fuel) (fresh_turn c (ways c s)) least most done p g) ≡ Some (p, g)
groups_at_stop c free order s least most fuel done p g le not_idle in_most =
    let body = fresh_turn c (ways c s) in
    let again = turns fuel body least most (done + 1) in
    first_without_turn body least most fuel done p g le (λ w i j. none_on w (has_next w.0 (below done most) body p g i) j)
  where
    none_on : (w : Way) → (below done most ≡ true) × Has w.0 (ways c s p (cleared c g)) → Has p (after_turn least done p (turns fuel (fresh_turn c (ways c s)) least most (done + 1)) w) → ⊥
    none_on w i j =
        let r = ways_reach c free order s p w.0 (cleared c g) i.1 in
        let up = forth (part_of c) s p w.0 r in
        elim (here_or_on p w.0 up) [
          | inl same ↦ (
              let flag : (eqb w.0 p && leb least done) ≡ true = let a : eqb w.0 p ≡ true = grind (arith, nat_tests) in let b : leb least done ≡ true = grind (arith, nat_tests) in rw (a, b) refl in
              let k = has_only p (eqb done 0) w (subst (λ b. Has p (stopped_or_on b done (turns fuel (fresh_turn c (ways c s)) least most (done + 1)) w)) flag j) in
              not_idle (grind (arith, nat_tests, k.0)) i.0 (subst (λ x. Reaches (part_of c) s p x) same r))
          | inr on ↦ (
              let t = turns_reach (Reaches (part_of c) s) (fresh_turn c (ways c s)) (λ x y k h. ways_reach c free order s x y (cleared c k) h) least most fuel (done + 1) w.0 p w.1 (within_next most done i.0)
              (subst (λ l. Has p l) (busy_after least done p (turns fuel (fresh_turn c (ways c s)) least most (done + 1)) w (after_is_busy least done p w.0 on)) j) in
              let back = turned_forth (Reaches (part_of c) s) (forth (part_of c) s) t.0 w.0 p t.3 in
              absurd (omega arith))
        ]

-- A first turn that is idle and not needed counts, and ends the repeat.
pub groups_of_idle : (c : Tree) → refers c ≡ false → repeats_in_order c ≡ true → (s : List ℕ) (most : Option ℕ) (fuel p : ℕ) (g : Groups) (v : Way) → below 0 most ≡ true → first_to p (ways c s p (cleared c g)) ≡ Some v → first_to p (turns (suc fuel) (fresh_turn c (ways c s)) 0 most 0 p g) ≡ Some v
groups_of_idle c free order s most fuel p g v may is =
    let body = fresh_turn c (ways c s) in
    let again = turns fuel body 0 most 1 in
    let there = first_there p (ways c s p (cleared c g)) v is in
    let flag : (eqb v.0 p && leb 0 0) ≡ true = let h = there.0 in let a : eqb v.0 p ≡ true = grind (arith, nat_tests) in rw a refl in
    let one : after_turn 0 0 p again v ≡ v ∷ [] = ap (λ b. stopped_or_on b 0 again v) flag in
    first_with_turn body 0 most fuel 0 p p p g v may is (subst (λ l. Has p l) (sym one) (inl there.0))
    (λ w lt i j.
    let t = turns_reach (Reaches (part_of c) s) body (λ x y k h. ways_reach c free order s x y (cleared c k) h) 0 most fuel 1 w.0 p w.1 (within_next most 0 may)
    (subst (λ l. Has p l) (busy_after 0 0 p again w (after_is_busy 0 0 p w.0 lt)) j) in
    let back = turned_forth (Reaches (part_of c) s) (forth (part_of c) s) t.0 w.0 p t.3 in
    absurd (omega arith))
    ∙ ap (λ l. first_to p l) one
    ∙ (let h = there.0 in let a : eqb v.0 p ≡ true = grind (arith, nat_tests) in rw a refl)
