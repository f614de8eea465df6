-- A run of columns backwards over a piece gives a part's last ends, and tables are told by one another.
use Rattle.std.proofs.Common.{◌≡◌, ℕ, ◌+◌, ◌-◌, ◌≤◌, ◌⊎◌, inl, inr, List, [], length, get_or, Option, Some, None, Bool, true, false, eqb, is_some, refl, sym, subst, arith}
use Rattle.std.proofs.lemmas.Bool.Decides.{nat_tests}
use Rattle.std.specs.Prelude.{◌&&◌, ◌||◌}
use Rattle.std.proofs.lemmas.Bool.{and_from}
use Rattle.bre_match.specs.Parts.{Part, Reaches}
use Rattle.bre_match.specs.Columns.{where_true}
use Rattle.bre_match.specs.Backwards.{Backwards, IsPiece}
use Rattle.bre_match.specs.Ends.{LastEnd, LastEnds, leads_on, entered, out_of}
use Rattle.bre_match.proofs.Columns.{AtMost, forth}
use Rattle.bre_match.proofs.ColumnRuns.{unmarked, out_comes, out_least}

only_where : (b : Bool) (p w : ℕ) → where_true b (Some p) ≡ Some w → (b ≡ true) × (p ≡ w)
only_where true p w e = (refl, cc)
only_where false p w e = absurd (cc)

let_in : (b : Bool) (p : ℕ) → b ≡ true → AtMost (where_true b (Some p)) p
let_in true p e = (p, refl, omega arith)
let_in false p e = absurd (cc)

pub last_ends : (t back : Part) (s w : List ℕ) (b e : ℕ) (x y : Bool) (here : ℕ → Bool) (table : List (Option ℕ)) → Backwards x y t back → IsPiece s w b e x y → unmarked back ≡ true → ((i : ℕ) → i ≤ length w → get_or table i None ≡ out_of back w 0 (entered here) i) → LastEnds t (λ n. here (e - n) ≡ true) s b e table
last_ends t back s w b e x y here table turn v u told place low high =
    let size = v.size in
    case_of (get_or table (e - place) None) (told (e - place) (omega arith))
  where
    none_after : (n : ℕ) → n ≤ e → Reaches t s place n → here (e - n) ≡ true → AtMost (out_of back w 0 (entered here) (e - place)) (e - n)
    none_after n le r h =
        let up = forth t s place n r in
        out_least back w 0 (entered here) (e - place) (e - n) (e - n) (omega arith) (omega arith) (let_in (here (e - n)) (e - n) h)
        (subst (λ z. Reaches back w (e - n) z) (let l : e - place ≡ 0 + (e - place) = omega arith in l) (turn.back_there s w b e v place n low le r))

    case_of : (o : Option ℕ) → o ≡ out_of back w 0 (entered here) (e - place) → LastEnd t (λ n. here (e - n) ≡ true) s e place o
    case_of None is = λ n le r h.
        let a = none_after n le r h in
        let f = a.1 in
        cc
    case_of (Some d) is =
        let c = out_comes back w 0 (entered here) u (e - place) d (sym is) in
        let there = only_where (here c.0) c.0 d c.3 in
        let same = there.1 in
        let up = c.2 in
        let order = v.order in
        let r : Reaches t s (e - (0 + (e - place))) (e - c.0) = turn.forth_there s w b e v c.0 (0 + (e - place)) (omega arith) c.4 in (
          omega arith,
          subst (λ z. Reaches t s z (e - d)) (let k : e - (0 + (e - place)) ≡ place = omega arith in k)
              (subst (λ z. Reaches t s (e - (0 + (e - place))) (e - z)) same r),
          subst (λ z. here z ≡ true) (let k : c.0 ≡ e - (e - d) = omega arith in k) there.0,
          (λ n lt le h g.
              let a = none_after n le h g in
              let same2 : a.0 ≡ d = let f = a.1 in cc in
              let at_most = a.2 in
              omega arith),
        )

-- where the rest goes on may be told in other words
pub retold : (t : Part) (s : List ℕ) (b e : ℕ) (table : List (Option ℕ)) (G H : ℕ → Type 0) → ((n : ℕ) → b ≤ n → n ≤ e → G n → H n) → ((n : ℕ) → b ≤ n → n ≤ e → H n → G n) → LastEnds t G s b e table → LastEnds t H s b e table
retold t s b e table G H to from all place low high = by_cases (get_or table (e - place) None) (all place low high)
  where
    by_cases : (o : Option ℕ) → LastEnd t G s e place o → LastEnd t H s e place o
    by_cases None h = λ n le r g. let up = forth t s place n r in h n le r (from n (omega arith) le g)
    by_cases (Some d) h =
        let up = forth t s place (e - d) h.1 in
        (h.0, h.1, to (e - d) (omega arith) (omega arith) h.2, λ n lt le r g. h.3 n lt le r (from n (omega arith) le g))

-- no table is that of a rest that never goes on
pub no_ends : (t : Part) (s : List ℕ) (b e : ℕ) (table : List (Option ℕ)) → table ≡ [] → LastEnds t (λ n. ⊥) s b e table
no_ends t s b e table is =
    subst (λ z. LastEnds t (λ n. ⊥) s b e z) (sym is) (λ place low high. λ n le r g. g)

either_true : (a b : Bool) → (a || b) ≡ true → (a ≡ true) ⊎ (b ≡ true)
either_true true b h = inl refl
either_true false b h = inr h

true_of_both : (a b : Bool) → (a && b) ≡ true → (a ≡ true) × (b ≡ true)
true_of_both true b h = (refl, h)
true_of_both false b h = absurd (cc)

true_at_left : (a b : Bool) → a ≡ true → (a || b) ≡ true
true_at_left true b h = refl
true_at_left false b h = absurd (cc)

true_at_right : (a b : Bool) → b ≡ true → (a || b) ≡ true
true_at_right true b h = refl
true_at_right false b h = h

some_end : (t : Part) (G : ℕ → Type 0) (s : List ℕ) (e n : ℕ) (o : Option ℕ) → is_some o ≡ true → LastEnd t G s e n o → (m : ℕ) × (m ≤ e) × Reaches t s n m × G m
some_end t G s e n None f h = absurd (cc)
some_end t G s e n (Some d) f h = (e - d, omega arith, h.1, h.2)

end_there : (t : Part) (G : ℕ → Type 0) (s : List ℕ) (e n m : ℕ) (o : Option ℕ) → LastEnd t G s e n o → m ≤ e → Reaches t s n m → G m → is_some o ≡ true
end_there t G s e n m None h le r g = absurd (h m le r g)
end_there t G s e n m (Some d) h le r g = refl

-- a table tells where the rest goes on: it stops there, or its part leads to where it goes on
pub leads : (t : Part) (G : ℕ → Type 0) (s : List ℕ) (b e : ℕ) (stops : Bool) (table : List (Option ℕ)) → LastEnds t G s b e table → (n : ℕ) → b ≤ n → n ≤ e → leads_on stops table (e - n) ≡ true → ((stops ≡ true) × (n ≡ e)) ⊎ ((m : ℕ) × (m ≤ e) × Reaches t s n m × G m)
leads t G s b e stops table all n low high h =
    elim (either_true (stops && eqb (e - n) 0) (is_some (get_or table (e - n) None)) h) [
      | inl i ↦ (
          let j = true_of_both stops (eqb (e - n) 0) i in
          let k : e - n ≡ 0 = grind (arith, nat_tests, j.1) in
          inl (j.0, omega arith))
      | inr i ↦ inr (some_end t G s e n (get_or table (e - n) None) i (all n low high))
    ]

pub leads_at_end : (stops : Bool) (table : List (Option ℕ)) (e n : ℕ) → stops ≡ true → n ≡ e → leads_on stops table (e - n) ≡ true
leads_at_end stops table e n h i =
    let j : e - n ≡ 0 = omega arith in
    true_at_left (stops && eqb (e - n) 0) (is_some (get_or table (e - n) None)) (and_from stops (eqb (e - n) 0) h (grind (arith, nat_tests, j)))

pub leads_further : (t : Part) (G : ℕ → Type 0) (s : List ℕ) (b e : ℕ) (stops : Bool) (table : List (Option ℕ)) → LastEnds t G s b e table → (n m : ℕ) → b ≤ n → n ≤ e → m ≤ e → Reaches t s n m → G m → leads_on stops table (e - n) ≡ true
leads_further t G s b e stops table all n m low high le r g =
    true_at_right (stops && eqb (e - n) 0) (is_some (get_or table (e - n) None)) (end_there t G s e n m (get_or table (e - n) None) (all n low high) le r g)
