-- Without back-references the ends of a part's ways are the places that it reaches with its turns written out.
use Rattle.std.proofs.Common.{◌≡◌, ℕ, zero, suc, ◌+◌, ◌-◌, ◌≤◌, inl, inr, List, length, Option, Some, None, Bool, true, false, eqb, refl, sym, subst, arith}
use Rattle.std.proofs.lemmas.Bool.Decides.{nat_tests}
use Rattle.std.specs.Prelude.{◌&&◌, ◌||◌, slice_get}
use Rattle.bre_parse.specs.Tree.{Tree, Empty, Then, Set, TextStart, TextEnd, BackReference, Group, Repeat}
use Rattle.bre_parse.specs.Groups.{Groups, cleared}
use Rattle.bre_parse.specs.Ways.{ways, fresh_turn, from_way, with_group, by_end, enough, has_byte_in}
use Rattle.bre_parse.specs.WellFormed.{bounds_in_order, repeats_in_order}
use Rattle.bre_parse.specs.Groups.{refers}
use Rattle.bre_match.specs.Parts.{Part, Nothing, Never, One, AtStart, AtEnd, Both, Maybe, Star, Power, Reaches, part_of, needed, up_to, written_out}
use Rattle.bre_match.specs.Laws.{Has}
use Rattle.bre_match.specs.Tables.{Within}
use Rattle.bre_match.proofs.Columns.{forth}
use Rattle.bre_match.proofs.Rows.{byte_there}
use Rattle.bre_match.proofs.WaysReach.{has_sorted, has_unsorted, has_through, has_by_way, has_mapped, has_unmapped, has_only, has_if, turns_reach, reach_turns}

-- Turns written out

power_join : (R : ℕ → ℕ → Type 0) (i j p m q : ℕ) → Power R i p m → Power R j m q → Power R (i + j) p q
power_join R zero j p m q h k = subst (λ x. Power R (0 + j) x q) (sym h) (subst (λ n. Power R n m q) (omega arith) k)
power_join R (suc i) j p m q h k =
    subst (λ n. Power R n p q) (let e : suc (i + j) ≡ suc i + j = omega arith in e) (h.0, h.1, power_join R i j h.0 m q h.2 k)

power_split : (R : ℕ → ℕ → Type 0) (i j p q : ℕ) → Power R (i + j) p q → (m : ℕ) × Power R i p m × Power R j m q
power_split R zero j p q h = (p, refl, subst (λ n. Power R n p q) (let e : 0 + j ≡ j = omega arith in e) h)
power_split R (suc i) j p q h =
    let h2 : Power R (suc (i + j)) p q = subst (λ n. Power R n p q) (let e : suc i + j ≡ suc (i + j) = omega arith in e) h in
    let r = power_split R i j h2.0 q h2.2 in
    (r.0, (h2.0, h2.1, r.1), r.2)

needed_turns : (c rest : Part) (s : List ℕ) (l p q : ℕ) → Reaches (needed l c rest) s p q → (m : ℕ) × Power (Reaches c s) l p m × Reaches rest s m q
needed_turns c rest s zero p q h = (p, refl, h)
needed_turns c rest s (suc l) p q h =
    let r = needed_turns c rest s l h.0 q h.2 in
    (r.0, (h.0, h.1, r.1), r.2)

turns_needed : (c rest : Part) (s : List ℕ) (l p m q : ℕ) → Power (Reaches c s) l p m → Reaches rest s m q → Reaches (needed l c rest) s p q
turns_needed c rest s zero p m q h r = subst (λ x. Reaches rest s x q) (sym h) r
turns_needed c rest s (suc l) p m q h r = (h.0, h.1, turns_needed c rest s l h.0 m q h.2 r)

up_to_turns : (c : Part) (s : List ℕ) (n p q : ℕ) → Reaches (up_to n c) s p q → (k : ℕ) × (k ≤ n) × Power (Reaches c s) k p q
up_to_turns c s zero p q h = (0, omega arith, h)
up_to_turns c s (suc n) p q h =
    elim h [
      | inl e ↦ (0, omega arith, e)
      | inr i ↦ (
          let r = up_to_turns c s n i.0 q i.2 in
          (suc r.0, let le = r.1 in omega arith, (i.0, i.1, r.2)))
    ]

turns_up_to : (c : Part) (s : List ℕ) (n k p q : ℕ) → k ≤ n → Power (Reaches c s) k p q → Reaches (up_to n c) s p q
turns_up_to c s zero zero p q le h = h
turns_up_to c s zero (suc k) p q le h = absurd (omega arith)
turns_up_to c s (suc n) zero p q le h = inl h
turns_up_to c s (suc n) (suc k) p q le h = inr (h.0, h.1, turns_up_to c s n k h.0 q (omega arith) h.2)

pub written : (c : Part) (s : List ℕ) (least : ℕ) (most : Option ℕ) (k p q : ℕ) → least ≤ k → Within most k → Power (Reaches c s) k p q → Reaches (written_out least most c) s p q
written c s least None k p q le w h =
    let r = power_split (Reaches c s) least (k - least) p q (subst (λ n. Power (Reaches c s) n p q) (let e : k ≡ least + (k - least) = omega arith in e) h) in
    turns_needed c (Star c) s least p r.0 q r.1 (k - least, r.2)
written c s least (Some most) k p q le w h =
    let r = power_split (Reaches c s) least (k - least) p q (subst (λ n. Power (Reaches c s) n p q) (let e : k ≡ least + (k - least) = omega arith in e) h) in
    turns_needed c (up_to (most - least) c) s least p r.0 q r.1 (turns_up_to c s (most - least) (k - least) r.0 q (omega arith) r.2)

pub unwritten : (c : Part) (s : List ℕ) (least : ℕ) (most : Option ℕ) (p q : ℕ) → bounds_in_order least most ≡ true → Reaches (written_out least most c) s p q → (k : ℕ) × (least ≤ k) × Within most k × Power (Reaches c s) k p q
unwritten c s least None p q o h =
    let r = needed_turns c (Star c) s least p q h in
    (least + r.2.0, omega arith, tt, power_join (Reaches c s) least r.2.0 p r.0 q r.1 r.2.1)
unwritten c s least (Some most) p q o h =
    let r = needed_turns c (up_to (most - least) c) s least p q h in
    let u = up_to_turns c s (most - least) r.0 q r.2 in
    let few : u.0 ≤ most - least = u.1 in
    (least + u.0, omega arith, let le : least ≤ most = grind (arith, nat_tests) in omega arith, power_join (Reaches c s) least u.0 p r.0 q r.1 u.2)

-- Bool's parts

pub both_left : (x y : Bool) → (x && y) ≡ true → x ≡ true
both_left true y e = refl
both_left false y e = e

pub both_right : (x y : Bool) → (x && y) ≡ true → y ≡ true
both_right true y e = e
both_right false y e = absurd (cc)

pub none_left : (x y : Bool) → (x || y) ≡ false → x ≡ false
none_left true y e = e
none_left false y e = refl

pub none_right : (x y : Bool) → (x || y) ≡ false → y ≡ false
none_right true y e = absurd (cc)
none_right false y e = e

-- what is reached lies within the text
power_within : (R : ℕ → ℕ → Type 0) (n : ℕ) → ((p q : ℕ) → p ≤ n → R p q → q ≤ n) → (k p q : ℕ) → p ≤ n → Power R k p q → q ≤ n
power_within R n all zero p q le h = omega arith
power_within R n all (suc k) p q le h = power_within R n all k h.0 q (all p h.0 le h.1) h.2

pub reach_within : (t : Part) (s : List ℕ) (p q : ℕ) → p ≤ length s → Reaches t s p q → q ≤ length s
reach_within Nothing s p q le h = omega arith
reach_within Never s p q le h = absurd h
reach_within (One n r m) s p q le h = let e = h.0 in let b = byte_there s p n r h.1 in omega arith
reach_within AtStart s p q le h = let e = h.0 in omega arith
reach_within AtEnd s p q le h = let e = h.0 in omega arith
reach_within (Both a b) s p q le h = reach_within b s h.0 q (reach_within a s p h.0 le h.1) h.2
reach_within (Maybe a) s p q le h = elim h [ inl e ↦ omega arith | inr r ↦ reach_within a s p q le r ]
reach_within (Star a) s p q le h = power_within (Reaches a s) (length s) (reach_within a s) h.0 p q le h.1

-- Trees

pub ways_reach : (t : Tree) → refers t ≡ false → repeats_in_order t ≡ true → (s : List ℕ) (p q : ℕ) (g : Groups) → Has q (ways t s p g) → Reaches (part_of t) s p q
ways_reach Empty r o s p q g h = elim h [ inl e ↦ e | inr i ↦ absurd i ]
ways_reach (Then a b) r o s p q g h =
    let i = has_through q (from_way (ways b s)) (by_end (ways a s p g)) h in
    let w = i.0 in
    (w.0, ways_reach a (none_left (refers a) (refers b) r) (both_left (repeats_in_order a) (repeats_in_order b) o) s p w.0 g (has_unsorted w.0 (ways a s p g) i.1), ways_reach b (none_right (refers a) (refers b) r) (both_right (repeats_in_order a) (repeats_in_order b) o) s w.0 q w.1 i.2)
ways_reach (Set n rs) r o s p q g h =
    let i = has_only q (has_byte_in n rs (slice_get s p)) (p + 1, g) h in (i.1, i.0)
ways_reach TextStart r o s p q g h =
    let i = has_only q (eqb p 0) (p, g) h in (i.1, grind (arith, nat_tests, i.0))
ways_reach TextEnd r o s p q g h =
    let i = has_only q (eqb p (length s)) (p, g) h in (i.1, grind (arith, nat_tests, i.0))
ways_reach (BackReference n) r o s p q g h = absurd (cc)
ways_reach (Group n c) r o s p q g h =
    ways_reach c r o s p q g (has_unmapped q (with_group n p) (ways c s p g) (λ w. refl) h)
ways_reach (Repeat l m c) r o s p q g h =
    let oc = both_right (bounds_in_order l m) (repeats_in_order c) o in
    let i = turns_reach (Reaches (part_of c) s) (fresh_turn c (ways c s)) (λ x y k j. ways_reach c r oc s x y (cleared c k) j) l m (enough l s p) 0 p q g (within_none m) h in
    written (part_of c) s l m i.0 p q (let le = i.1 in omega arith) (within_plain m i.0 i.2) i.3
  where
    within_none : (m : Option ℕ) → Within m 0
    within_none None = tt
    within_none (Some n) = omega arith

    within_plain : (m : Option ℕ) (k : ℕ) → Within m (0 + k) → Within m k
    within_plain None k w = tt
    within_plain (Some n) k w = omega arith

pub reach_ways : (t : Tree) → refers t ≡ false → repeats_in_order t ≡ true → (s : List ℕ) (p q : ℕ) (g : Groups) → p ≤ length s → Reaches (part_of t) s p q → Has q (ways t s p g)
reach_ways Empty r o s p q g le h = inl h
reach_ways (Then a b) r o s p q g le h =
    let ra = none_left (refers a) (refers b) r in
    let rb = none_right (refers a) (refers b) r in
    let oa = both_left (repeats_in_order a) (repeats_in_order b) o in
    let ob = both_right (repeats_in_order a) (repeats_in_order b) o in
    let inside : h.0 ≤ length s = reach_within (part_of a) s p h.0 le h.1 in
    has_by_way h.0 q (from_way (ways b s)) (by_end (ways a s p g)) (has_sorted h.0 (ways a s p g) (reach_ways a ra oa s p h.0 g le h.1))
    (λ w e. reach_ways b rb ob s w.0 q w.1 (subst (λ x. x ≤ length s) (sym e) inside) (subst (λ x. Reaches (part_of b) s x q) (sym e) h.2))
reach_ways (Set n rs) r o s p q g le h = has_if q (has_byte_in n rs (slice_get s p)) (p + 1, g) h.1 h.0
reach_ways TextStart r o s p q g le h = has_if q (eqb p 0) (p, g) (let e = h.1 in grind (arith, nat_tests)) h.0
reach_ways TextEnd r o s p q g le h = has_if q (eqb p (length s)) (p, g) (let e = h.1 in grind (arith, nat_tests)) h.0
reach_ways (BackReference n) r o s p q g le h = absurd h
reach_ways (Group n c) r o s p q g le h =
    has_mapped q (with_group n p) (ways c s p g) (λ w. refl) (reach_ways c r o s p q g le h)
reach_ways (Repeat l m c) r o s p q g le h =
    let ol = both_left (bounds_in_order l m) (repeats_in_order c) o in
    let oc = both_right (bounds_in_order l m) (repeats_in_order c) o in
    let i = unwritten (part_of c) s l m p q ol h in
    reach_turns (Reaches (part_of c) s) (fresh_turn c (ways c s)) (length s)
    (λ x y lx j. (forth (part_of c) s x y j, reach_within (part_of c) s x y lx j))
    (λ x y k lx j. reach_ways c r oc s x y (cleared c k) lx j)
    l m i.0 (enough l s p) 0 p q g le (omega arith) (let a = i.1 in omega arith) (within_sum m i.0 i.2) i.3
  where
    within_sum : (m : Option ℕ) (k : ℕ) → Within m k → Within m (0 + k)
    within_sum None k w = tt
    within_sum (Some n) k w = omega arith
