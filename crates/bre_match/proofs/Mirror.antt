-- What a part reaches forwards its like reaches backwards, in a piece read from its end.
use Rattle.std.proofs.Common.{◌≡◌, ℕ, zero, suc, ◌+◌, ◌-◌, ◌<◌, ◌≤◌, List, [], ◌∷◌, ◌++◌, length, drop, get_or, Option, Some, None, Bool, true, false, Vec, Global, refl, ap, sym, ◌∙◌, subst, arith}
use Rattle.std.specs.Prelude.{slice_get}
use Rattle.bre_parse.specs.declared.tree.Node.{Node}
use Rattle.bre_parse.specs.declared.tree.Node.TheVariants as node
use Rattle.bre_parse.specs.Tree.{tree_of, sequence_of}
use Rattle.bre_parse.proofs.Sequences.{tree_of-Sequence}
use Rattle.bre_parse.specs.Ways.{has_byte_in}
use Rattle.bre_parse.specs.WellFormed.{bounds_in_order}
use Rattle.bre_match.specs.Parts.{Part, Nothing, Never, One, AtStart, AtEnd, Both, Star, Power, Reaches, part_of, written_out}
use Rattle.bre_match.specs.Backwards.{Backwards}
use Rattle.bre_match.proofs.Columns.{forth}
use Rattle.bre_match.proofs.ColumnRows.{item_left, none_left_of}
use Rattle.bre_match.proofs.TreeReach.{written, unwritten}

power_last : (R : ℕ → ℕ → Type 0) (k x y z : ℕ) → Power R k x y → R y z → Power R (suc k) x z
power_last R zero x y z h r = (z, subst (λ a. R a z) (sym h) r, refl)
power_last R (suc k) x y z h r = (h.0, h.1, power_last R k h.0 y z h.2 r)

pub power_forth : (R : ℕ → ℕ → Type 0) → ((p q : ℕ) → R p q → p ≤ q) → (k p q : ℕ) → Power R k p q → p ≤ q
power_forth R all zero p q h = omega arith
power_forth R all (suc k) p q h =
    let a = all p h.0 h.1 in
    let b = power_forth R all k h.0 q h.2 in
    omega arith

power_back : (R S : ℕ → ℕ → Type 0) (b e : ℕ) → ((p q : ℕ) → R p q → p ≤ q) → ((p q : ℕ) → b ≤ p → q ≤ e → R p q → S (e - q) (e - p)) → (k p q : ℕ) → b ≤ p → q ≤ e → Power R k p q → Power S k (e - q) (e - p)
power_back R S b e up all zero p q low high h = ap (λ x. e - x) (sym h)
power_back R S b e up all (suc k) p q low high h =
    let a = up p h.0 h.1 in
    let c = power_forth R up k h.0 q h.2 in
    power_last S k (e - q) (e - h.0) (e - p) (power_back R S b e up all k h.0 q (omega arith) high h.2) (all p h.0 low (omega arith) h.1)

power_forwards : (R S : ℕ → ℕ → Type 0) (b e : ℕ) → ((p q : ℕ) → S p q → p ≤ q) → ((i j : ℕ) → j ≤ e - b → S i j → R (e - j) (e - i)) → (k i j : ℕ) → j ≤ e - b → Power S k i j → Power R k (e - j) (e - i)
power_forwards R S b e up all zero i j le h = ap (λ z. e - z) (sym h)
power_forwards R S b e up all (suc k) i j le h =
    let c = power_forth S up k h.0 j h.2 in
    power_last R k (e - j) (e - h.0) (e - i) (power_forwards R S b e up all k h.0 j le h.2) (all i h.0 (omega arith) h.1)

-- Kinds of parts

pub mirror_nothing : (x y : Bool) → Backwards x y Nothing Nothing
mirror_nothing x y = record {
  back_there = λ s w b e v p q low high h. ap (λ z. e - z) (sym h);
  forth_there = λ s w b e v i j le h. ap (λ z. e - z) (sym h);
}

no_byte : (o : Option ℕ) → has_byte_in false [] o ≡ true → ⊥
no_byte None e = cc
no_byte (Some b) e = cc

pub mirror_never : (x y : Bool) → Backwards x y Never (One false [] None)
mirror_never x y = record {
  back_there = λ s w b e v p q low high h. absurd h;
  forth_there = λ s w b e v i j le h. absurd (no_byte (slice_get w i) h.1);
}

pub mirror_set : (x y n : Bool) (r : List (ℕ × ℕ)) → Backwards x y (One n r None) (One n r None)
mirror_set x y n r = record {
  back_there = λ s w b e v p q low high h.
      let is = h.0 in
      let byte = v.bytes p low (omega arith) in
      (omega arith, subst (λ z. has_byte_in n r (slice_get w (e - z)) ≡ true) is (ap (has_byte_in n r) byte ∙ h.1));
  forth_there = λ s w b e v i j le h.
      let is = h.0 in
      let order = v.order in
      let byte = v.bytes (e - j) (omega arith) (omega arith) in
      let there : e - (e - j + 1) ≡ i = omega arith in
      (omega arith, ap (has_byte_in n r) (sym byte) ∙ subst (λ z. has_byte_in n r (slice_get w z) ≡ true) (sym there) h.1);
}

pub mirror_start : (y : Bool) → Backwards true y AtStart AtEnd
mirror_start y = record {
  back_there = λ s w b e v p q low high h.
      let i = h.0 in
      let j = h.1 in
      let size = v.size in
      let first = v.at_start refl in
      (omega arith, omega arith);
  forth_there = λ s w b e v i j le h.
      let k = h.0 in
      let l = h.1 in
      let size = v.size in
      let first = v.at_start refl in
      (omega arith, omega arith);
}

pub mirror_no_start : (y : Bool) → Backwards false y AtStart (One false [] None)
mirror_no_start y = record {
  back_there = λ s w b e v p q low high h.
      let j = h.1 in
      absurd (let i = v.from_start (omega arith) in cc);
  forth_there = λ s w b e v i j le h. absurd (no_byte (slice_get w i) h.1);
}

pub mirror_end : (x : Bool) → Backwards x true AtEnd AtStart
mirror_end x = record {
  back_there = λ s w b e v p q low high h.
      let i = h.0 in
      let j = h.1 in
      let last = v.at_end refl in
      (omega arith, omega arith);
  forth_there = λ s w b e v i j le h.
      let k = h.0 in
      let l = h.1 in
      let last = v.at_end refl in
      (omega arith, omega arith);
}

pub mirror_no_end : (x : Bool) → Backwards x false AtEnd (One false [] None)
mirror_no_end x = record {
  back_there = λ s w b e v p q low high h.
      let i = h.0 in
      let j = h.1 in
      let within = v.within in
      absurd (let k = v.to_end (omega arith) in cc);
  forth_there = λ s w b e v i j le h. absurd (no_byte (slice_get w i) h.1);
}

pub mirror_both : (x y : Bool) (a c u z : Part) → Backwards x y a u → Backwards x y c z → Backwards x y (Both a c) (Both z u)
mirror_both x y a c u z f g = record {
  back_there = λ s w b e v p q low high h.
      let i = forth a s p h.0 h.1 in
      let j = forth c s h.0 q h.2 in
      (e - h.0, g.back_there s w b e v h.0 q (omega arith) high h.2, f.back_there s w b e v p h.0 low (omega arith) h.1);
  forth_there = λ s w b e v i j le h.
      let up = forth u w h.0 j h.2 in
      (e - h.0, f.forth_there s w b e v h.0 j le h.2, g.forth_there s w b e v i h.0 (omega arith) h.1);
}

pub mirror_repeat : (x y : Bool) (l : ℕ) (most : Option ℕ) (c u : Part) → bounds_in_order l most ≡ true → Backwards x y c u → Backwards x y (written_out l most c) (written_out l most u)
mirror_repeat x y l most c u o f = record {
  back_there = λ s w b e v p q low high h.
      let r = unwritten c s l most p q o h in
      written u w l most r.0 (e - q) (e - p) r.1 r.2 (power_back (Reaches c s) (Reaches u w) b e (forth c s) (λ i j k m n. f.back_there s w b e v i j k m n) r.0 p q low high r.3);
  forth_there = λ s w b e v i j le h.
      let r = unwritten u w l most i j o h in
      written c s l most r.0 (e - j) (e - i) r.1 r.2 (power_forwards (Reaches c s) (Reaches u w) b e (forth u w) (λ k m n r. f.forth_there s w b e v k m n r) r.0 i j le r.3);
}

pub mirror_turns : (x y : Bool) (c u : Part) → Backwards x y c u → Backwards x y (Star c) (Star u)
mirror_turns x y c u f = mirror_repeat x y 0 None c u refl f

-- Parts as they lie in memory

pub mirror_sequence : (x y : Bool) (part : Node) (items : Vec Node Global) (row : List Node) (back : Vec Node Global) → part ≡ node.Sequence items → row ≡ items.items → Backwards x y (part_of (sequence_of row)) (part_of (sequence_of back.items)) → Backwards x y (part_of (tree_of part)) (part_of (tree_of (node.Sequence back)))
mirror_sequence x y part items row back is same h =
    subst (λ z. Backwards x y (part_of z) (part_of (tree_of (node.Sequence back)))) (sym (ap tree_of is ∙ tree_of-Sequence items ∙ ap sequence_of (sym same)))
    (subst (λ z. Backwards x y (part_of (sequence_of row)) (part_of z)) (sym (tree_of-Sequence back)) h)

-- Rows

row_last : (back : List Node) (t : Node) (w : List ℕ) (i j : ℕ) → Reaches (Both (part_of (sequence_of back)) (part_of (tree_of t))) w i j → Reaches (part_of (sequence_of (back ++ t ∷ []))) w i j
row_last [] t w i j h = (j, subst (λ z. Reaches (part_of (tree_of t)) w z j) (sym h.1) h.2, refl)
row_last (a ∷ as') t w i j h = (h.1.0, h.1.1, row_last as' t w h.1.0 j (h.0, h.1.2, h.2))

row_unlast : (back : List Node) (t : Node) (w : List ℕ) (i j : ℕ) → Reaches (part_of (sequence_of (back ++ t ∷ []))) w i j → Reaches (Both (part_of (sequence_of back)) (part_of (tree_of t))) w i j
row_unlast [] t w i j h = (i, refl, subst (λ z. Reaches (part_of (tree_of t)) w i z) h.2 h.1)
row_unlast (a ∷ as') t w i j h =
    let r = row_unlast as' t w h.0 j h.2 in
    (r.0, (h.0, h.1, r.1), r.2)

pub mirror_none : (x y : Bool) (items back : List Node) (i : ℕ) → length items ≤ i → back ≡ [] → Backwards x y (part_of (sequence_of (drop i items))) (part_of (sequence_of back))
mirror_none x y items back i le e =
    subst (λ z. Backwards x y z (part_of (sequence_of back))) (sym (none_left_of items i le))
    (subst (λ z. Backwards x y Nothing (part_of (sequence_of z))) (sym e) (mirror_nothing x y))

pub mirror_item : (x y : Bool) (items back new : List Node) (i : ℕ) (item turned : Node) → i < length items → item ≡ get_or items i item → new ≡ back ++ turned ∷ [] → Backwards x y (part_of (tree_of item)) (part_of (tree_of turned)) → Backwards x y (part_of (sequence_of (drop (i + 1) items))) (part_of (sequence_of back)) → Backwards x y (part_of (sequence_of (drop i items))) (part_of (sequence_of new))
mirror_item x y items back new i item turned lt is e f g =
    subst (λ z. Backwards x y z (part_of (sequence_of new))) (sym (item_left items i item lt is))
    (subst (λ z. Backwards x y (Both (part_of (tree_of item)) (part_of (sequence_of (drop (i + 1) items)))) (part_of (sequence_of z))) (sym e) whole)
  where
    both : Backwards x y (Both (part_of (tree_of item)) (part_of (sequence_of (drop (i + 1) items)))) (Both (part_of (sequence_of back)) (part_of (tree_of turned)))
    both = mirror_both x y (part_of (tree_of item)) (part_of (sequence_of (drop (i + 1) items))) (part_of (tree_of turned)) (part_of (sequence_of back)) f g

    whole : Backwards x y (Both (part_of (tree_of item)) (part_of (sequence_of (drop (i + 1) items)))) (part_of (sequence_of (back ++ turned ∷ [])))
    whole = record {
      back_there = λ s w b e2 v p q low high h. row_last back turned w (e2 - q) (e2 - p) (both.back_there s w b e2 v p q low high h);
      forth_there = λ s w b e2 v k j le h. both.forth_there s w b e2 v k j le (row_unlast back turned w k j h);
    }
