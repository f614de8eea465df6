-- A step of a column keeps just the weights that it had and those that enter.
use Rattle.std.proofs.Common.{◌≡◌, ℕ, zero, suc, ◌+◌, ◌<◌, ◌≤◌, ◌⊎◌, inl, inr, List, length, Option, Some, None, Bool, true, false, cond, leb, eqb, refl, subst, arith}
use Rattle.std.proofs.lemmas.Bool.Decides.{nat_tests}
use Rattle.std.specs.Prelude.{slice_get}
use Rattle.bre_parse.specs.Ways.{has_byte_in}
use Rattle.bre_match.specs.Parts.{Part, Nothing, Never, One, AtStart, AtEnd, Both, Maybe, Star, Power, Reaches}
use Rattle.bre_match.specs.Columns.{less_of, where_true, peek, step}

-- From a mark of this weight, at place x, a part can be left at place y.
abbrev pub Pending : Part → List ℕ → (x y weight : ℕ) → Type 0
Pending Nothing text x y weight = ⊥
Pending Never text x y weight = ⊥
Pending (One negated ranges mark) text x y weight = (x ≡ y) × (mark ≡ Some weight)
Pending AtStart text x y weight = ⊥
Pending AtEnd text x y weight = ⊥
Pending (Both first rest) text x y weight =
    Pending rest text x y weight ⊎ ((m : ℕ) × Pending first text x m weight × Reaches rest text m y)
Pending (Maybe content) text x y weight = Pending content text x y weight
Pending (Star content) text x y weight = (m : ℕ) × Pending content text x m weight × Reaches (Star content) text m y

-- there is a weight, and it is at most this
abbrev pub AtMost : Option ℕ → ℕ → Type 0
AtMost weight most = (w : ℕ) × (weight ≡ Some w) × (w ≤ most)

-- what a weight after a part at place y comes from: a mark, or the entry at place x
abbrev pub Comes : Part → List ℕ → (x y : ℕ) → (entry : Option ℕ) → ℕ → Type 0
Comes part text x y entry weight = Pending part text x y weight ⊎ ((entry ≡ Some weight) × Reaches part text x y)

-- Order of places

forth_power : (R : ℕ → ℕ → Type 0) → ((p q : ℕ) → R p q → p ≤ q) → (k p q : ℕ) → Power R k p q → p ≤ q
forth_power R all zero p q h = omega arith
forth_power R all (suc k) p q h =
    let a = all p h.0 h.1 in
    let b = forth_power R all k h.0 q h.2 in
    omega arith

pub forth : (t : Part) (s : List ℕ) (p q : ℕ) → Reaches t s p q → p ≤ q
forth Nothing s p q h = omega arith
forth Never s p q h = absurd h
forth (One n r m) s p q h = let e = h.0 in omega arith
forth AtStart s p q h = let e = h.0 in omega arith
forth AtEnd s p q h = let e = h.0 in omega arith
forth (Both a b) s p q h =
    let i = forth a s p h.0 h.1 in
    let j = forth b s h.0 q h.2 in
    omega arith
forth (Maybe a) s p q h = elim h [ inl e ↦ omega arith | inr r ↦ forth a s p q r ]
forth (Star a) s p q h = forth_power (Reaches a s) (forth a s) h.0 p q h.1

pub pending_forth : (t : Part) (s : List ℕ) (x y w : ℕ) → Pending t s x y w → x ≤ y
pending_forth Nothing s x y w h = absurd h
pending_forth Never s x y w h = absurd h
pending_forth (One n r m) s x y w h = let e = h.0 in omega arith
pending_forth AtStart s x y w h = absurd h
pending_forth AtEnd s x y w h = absurd h
pending_forth (Both a b) s x y w h =
    elim h [
      | inl i ↦ pending_forth b s x y w i
      | inr i ↦ (
          let j = pending_forth a s x i.0 w i.1 in
          let k = forth b s i.0 y i.2 in
          omega arith)
    ]
pending_forth (Maybe a) s x y w h = pending_forth a s x y w h
pending_forth (Star a) s x y w h =
    let j = pending_forth a s x h.0 w h.1 in
    let k = forth (Star a) s h.0 y h.2 in
    omega arith

-- A step changes marks alone

power_map : (R S : ℕ → ℕ → Type 0) → ((p q : ℕ) → R p q → S p q) → (k p q : ℕ) → Power R k p q → Power S k p q
power_map R S all zero p q h = h
power_map R S all (suc k) p q h = (h.0, all p h.0 h.1, power_map R S all k h.0 q h.2)

pub unstepped : (t : Part) (s : List ℕ) (x : ℕ) (f : Option ℕ) (p q : ℕ) → Reaches (step t s x f) s p q → Reaches t s p q
unstepped Nothing s x f p q h = h
unstepped Never s x f p q h = h
unstepped (One n r m) s x f p q h = h
unstepped AtStart s x f p q h = h
unstepped AtEnd s x f p q h = h
unstepped (Both a b) s x f p q h =
    (h.0, unstepped a s x f p h.0 h.1, unstepped b s x (peek a s x f) h.0 q h.2)
unstepped (Maybe a) s x f p q h = elim h [ inl e ↦ inl e | inr r ↦ inr (unstepped a s x f p q r) ]
unstepped (Star a) s x f p q h =
    let g = less_of f (peek a s x f) in
    (h.0, power_map (Reaches (step a s x g) s) (Reaches a s) (unstepped a s x g) h.0 p q h.1)

pub stepped : (t : Part) (s : List ℕ) (x : ℕ) (f : Option ℕ) (p q : ℕ) → Reaches t s p q → Reaches (step t s x f) s p q
stepped Nothing s x f p q h = h
stepped Never s x f p q h = h
stepped (One n r m) s x f p q h = h
stepped AtStart s x f p q h = h
stepped AtEnd s x f p q h = h
stepped (Both a b) s x f p q h =
    (h.0, stepped a s x f p h.0 h.1, stepped b s x (peek a s x f) h.0 q h.2)
stepped (Maybe a) s x f p q h = elim h [ inl e ↦ inl e | inr r ↦ inr (stepped a s x f p q r) ]
stepped (Star a) s x f p q h =
    let g = less_of f (peek a s x f) in
    (h.0, power_map (Reaches a s) (Reaches (step a s x g) s) (stepped a s x g) h.0 p q h.1)

-- Weights

one_of_two : (a b : Option ℕ) (w : ℕ) → less_of a b ≡ Some w → (a ≡ Some w) ⊎ (b ≡ Some w)
one_of_two None b w e = inr e
one_of_two (Some v) None w e = inl e
one_of_two (Some v) (Some u) w e = by_cases (leb v u) e
  where
    by_cases : (c : Bool) → cond c (Some v) (Some u) ≡ Some w → (Some v ≡ Some w) ⊎ (Some u ≡ Some w)
    by_cases true e = inl e
    by_cases false e = inr e

less_than_left : (a b : Option ℕ) (w : ℕ) → AtMost a w → AtMost (less_of a b) w
less_than_left None b w h = absurd (let e = h.1 in cc)
less_than_left (Some v) None w h = h
less_than_left (Some v) (Some u) w h = by_cases (leb v u) refl
  where
    le : v ≤ w
    le = let e : v ≡ h.0 = cc (h.1) in let l = h.2 in omega arith

    by_cases : (c : Bool) → leb v u ≡ c → AtMost (cond c (Some v) (Some u)) w
    by_cases true e = (v, refl, le)
    by_cases false e = (u, refl, grind (arith, nat_tests, le))

less_than_right : (a b : Option ℕ) (w : ℕ) → AtMost b w → AtMost (less_of a b) w
less_than_right None b w h = h
less_than_right (Some v) None w h = absurd (let e = h.1 in cc)
less_than_right (Some v) (Some u) w h = by_cases (leb v u) refl
  where
    le : u ≤ w
    le = let e : u ≡ h.0 = cc (h.1) in let l = h.2 in omega arith

    by_cases : (c : Bool) → leb v u ≡ c → AtMost (cond c (Some v) (Some u)) w
    by_cases true e = (v, refl, grind (arith, nat_tests, le))
    by_cases false e = (u, refl, le)

held : (b : Bool) (f : Option ℕ) (w : ℕ) → where_true b f ≡ Some w → (b ≡ true) × (f ≡ Some w)
held true f w e = (refl, e)
held false f w e = absurd (cc)

holds : (b : Bool) (f : Option ℕ) (w : ℕ) → b ≡ true → AtMost f w → AtMost (where_true b f) w
holds true f w e h = h
holds false f w e h = absurd (cc)

-- What `peek` gives comes from a mark or from the entry, and is the least

pub peek_comes : (t : Part) (s : List ℕ) (x : ℕ) (f : Option ℕ) (w : ℕ) → peek t s x f ≡ Some w → Comes t s x x f w
peek_comes Nothing s x f w e = inr (e, refl)
peek_comes Never s x f w e = absurd (cc)
peek_comes (One n r m) s x f w e = inl (refl, e)
peek_comes AtStart s x f w e = let h = held (eqb x 0) f w e in inr (h.1, (refl, grind (arith, nat_tests, h.0)))
peek_comes AtEnd s x f w e = let h = held (eqb x (length s)) f w e in inr (h.1, (refl, grind (arith, nat_tests, h.0)))
peek_comes (Both a b) s x f w e =
    elim (peek_comes b s x (peek a s x f) w e) [
      | inl i ↦ inl (inl i)
      | inr i ↦
          elim (peek_comes a s x f w i.0) [ inl j ↦ inl (inr (x, j, i.1)) | inr j ↦ inr (j.0, (x, j.1, i.1)) ]
    ]
peek_comes (Maybe a) s x f w e =
    elim (one_of_two f (peek a s x f) w e) [
      | inl i ↦ inr (i, inl refl)
      | inr i ↦
          elim (peek_comes a s x f w i) [ inl j ↦ inl j | inr j ↦ inr (j.0, inr j.1) ]
    ]
peek_comes (Star a) s x f w e =
    elim (one_of_two f (peek a s x f) w e) [
      | inl i ↦ inr (i, (0, refl))
      | inr i ↦
          elim (peek_comes a s x f w i) [ inl j ↦ inl (x, j, (0, refl)) | inr j ↦ inr (j.0, (0, refl)) ]
    ]

pub peek_entered : (t : Part) (s : List ℕ) (x : ℕ) (f : Option ℕ) (w : ℕ) → AtMost f w → Reaches t s x x → AtMost (peek t s x f) w
peek_entered Nothing s x f w l h = l
peek_entered Never s x f w l h = absurd h
peek_entered (One n r m) s x f w l h = absurd (let e = h.0 in omega arith)
peek_entered AtStart s x f w l h = holds (eqb x 0) f w (let e = h.1 in grind (arith, nat_tests)) l
peek_entered AtEnd s x f w l h = holds (eqb x (length s)) f w (let e = h.1 in grind (arith, nat_tests)) l
peek_entered (Both a b) s x f w l h =
    let i = forth a s x h.0 h.1 in
    let j = forth b s h.0 x h.2 in
    let e : h.0 ≡ x = omega arith in
    peek_entered b s x (peek a s x f) w (peek_entered a s x f w l (subst (λ m. Reaches a s x m) e h.1)) (subst (λ m. Reaches b s m x) e h.2)
peek_entered (Maybe a) s x f w l h = less_than_left f (peek a s x f) w l
peek_entered (Star a) s x f w l h = less_than_left f (peek a s x f) w l

pub peek_marked : (t : Part) (s : List ℕ) (x : ℕ) (f : Option ℕ) (w : ℕ) → Pending t s x x w → AtMost (peek t s x f) w
peek_marked Nothing s x f w h = absurd h
peek_marked Never s x f w h = absurd h
peek_marked (One n r m) s x f w h = (w, h.1, omega arith)
peek_marked AtStart s x f w h = absurd h
peek_marked AtEnd s x f w h = absurd h
peek_marked (Both a b) s x f w h =
    elim h [
      | inl i ↦ peek_marked b s x (peek a s x f) w i
      | inr i ↦ (
          let j = pending_forth a s x i.0 w i.1 in
          let k = forth b s i.0 x i.2 in
          let e : i.0 ≡ x = omega arith in
          peek_entered b s x (peek a s x f) w (peek_marked a s x f w (subst (λ m. Pending a s x m w) e i.1)) (subst (λ m. Reaches b s m x) e i.2))
    ]
peek_marked (Maybe a) s x f w h = less_than_right f (peek a s x f) w (peek_marked a s x f w h)
peek_marked (Star a) s x f w h =
    let j = pending_forth a s x h.0 w h.1 in
    let k = forth (Star a) s h.0 x h.2 in
    let e : h.0 ≡ x = omega arith in
    less_than_right f (peek a s x f) w (peek_marked a s x f w (subst (λ m. Pending a s x m w) e h.1))

-- What stands in the next column comes from a mark or from the entry

pub step_comes : (t : Part) (s : List ℕ) (x y : ℕ) (f : Option ℕ) (w : ℕ) → Pending (step t s x f) s (x + 1) y w → Comes t s x y f w
step_comes Nothing s x y f w h = absurd h
step_comes Never s x y f w h = absurd h
step_comes (One n r m) s x y f w h =
    let i = held (has_byte_in n r (slice_get s x)) f w h.1 in inr (i.1, (h.0, i.0))
step_comes AtStart s x y f w h = absurd h
step_comes AtEnd s x y f w h = absurd h
step_comes (Both a b) s x y f w h =
    elim h [
      | inl i ↦
          elim (step_comes b s x y (peek a s x f) w i) [
            | inl j ↦ inl (inl j)
            | inr j ↦
                elim (peek_comes a s x f w j.0) [ inl k ↦ inl (inr (x, k, j.1)) | inr k ↦ inr (k.0, (x, k.1, j.1)) ]
          ]
      | inr i ↦
          elim (step_comes a s x i.0 f w i.1) [
            | inl j ↦ inl (inr (i.0, j, unstepped b s x (peek a s x f) i.0 y i.2))
            | inr j ↦ inr (j.0, (i.0, j.1, unstepped b s x (peek a s x f) i.0 y i.2))
          ]
    ]
step_comes (Maybe a) s x y f w h =
    elim (step_comes a s x y f w h) [ inl i ↦ inl i | inr i ↦ inr (i.0, inr i.1) ]
step_comes (Star a) s x y f w h =
    let g = less_of f (peek a s x f) in
    let rest : Reaches (Star a) s h.0 y = unstepped (Star a) s x f h.0 y h.2 in
    elim (step_comes a s x h.0 g w h.1) [
      | inl i ↦ inl (h.0, i, rest)
      | inr i ↦
          elim (one_of_two f (peek a s x f) w i.0) [
            | inl j ↦ inr (j, (suc rest.0, (h.0, i.1, rest.1)))
            | inr j ↦
                elim (peek_comes a s x f w j) [
                  | inl k ↦ inl (x, k, (suc rest.0, (h.0, i.1, rest.1)))
                  | inr k ↦ inr (k.0, (suc rest.0, (h.0, i.1, rest.1)))
                ]
          ]
    ]

-- And all of that stands there, with a weight that is as good

abbrev Stands : Part → List ℕ → (x y w : ℕ) → Type 0
Stands t s x y w = (v : ℕ) × (v ≤ w) × Pending t s x y v

here_or_on : (m n : ℕ) → m ≤ n → (n ≡ m) ⊎ (m < n)
here_or_on m n le = grind arith

-- of several turns the first that takes a byte
first_busy : (a : Part) (s : List ℕ) (g : Option ℕ) (x y w : ℕ) → ((m : ℕ) → Reaches a s x m → x < m → Stands (step a s x g) s (x + 1) m w) → (k : ℕ) → Power (Reaches a s) k x y → x < y → (m : ℕ) × Stands (step a s x g) s (x + 1) m w × Reaches (Star a) s m y
first_busy a s g x y w all zero h lt = absurd (omega arith)
first_busy a s g x y w all (suc k) h lt =
    elim (here_or_on x h.0 (forth a s x h.0 h.1)) [
      | inl e ↦ first_busy a s g x y w all k (subst (λ m. Power (Reaches a s) k m y) e h.2) lt
      | inr on ↦ (h.0, all h.0 h.1 on, (k, h.2))
    ]

pub step_entered : (t : Part) (s : List ℕ) (x y : ℕ) (f : Option ℕ) (w : ℕ) → AtMost f w → Reaches t s x y → x < y → Stands (step t s x f) s (x + 1) y w
step_entered Nothing s x y f w l h lt = absurd (omega arith)
step_entered Never s x y f w l h lt = absurd h
step_entered (One n r m) s x y f w l h lt =
    let i = holds (has_byte_in n r (slice_get s x)) f w h.1 l in (i.0, i.2, (h.0, i.1))
step_entered AtStart s x y f w l h lt = absurd (let e = h.0 in omega arith)
step_entered AtEnd s x y f w l h lt = absurd (let e = h.0 in omega arith)
step_entered (Both a b) s x y f w l h lt =
    elim (here_or_on x h.0 (forth a s x h.0 h.1)) [
      | inl e ↦ (
          let i = step_entered b s x y (peek a s x f) w (peek_entered a s x f w l (subst (λ m. Reaches a s x m) e h.1)) (subst (λ m. Reaches b s m y) e h.2) lt in
          (i.0, i.1, inl i.2))
      | inr on ↦ (
          let i = step_entered a s x h.0 f w l h.1 on in
          (i.0, i.1, inr (h.0, i.2, stepped b s x (peek a s x f) h.0 y h.2)))
    ]
step_entered (Maybe a) s x y f w l h lt =
    elim h [ inl e ↦ absurd (omega arith) | inr r ↦ step_entered a s x y f w l r lt ]
step_entered (Star a) s x y f w l h lt =
    let g = less_of f (peek a s x f) in
    let i = first_busy a s g x y w (λ m r on. step_entered a s x m g w (less_than_left f (peek a s x f) w l) r on) h.0 h.1 lt in
    (i.1.0, i.1.1, (i.0, i.1.2, stepped (Star a) s x f i.0 y i.2))

pub step_marked : (t : Part) (s : List ℕ) (x y : ℕ) (f : Option ℕ) (w : ℕ) → Pending t s x y w → x < y → Stands (step t s x f) s (x + 1) y w
step_marked Nothing s x y f w h lt = absurd h
step_marked Never s x y f w h lt = absurd h
step_marked (One n r m) s x y f w h lt = absurd (let e = h.0 in omega arith)
step_marked AtStart s x y f w h lt = absurd h
step_marked AtEnd s x y f w h lt = absurd h
step_marked (Both a b) s x y f w h lt =
    elim h [
      | inl i ↦ (let j = step_marked b s x y (peek a s x f) w i lt in (j.0, j.1, inl j.2))
      | inr i ↦
          elim (here_or_on x i.0 (pending_forth a s x i.0 w i.1)) [
            | inl e ↦ (
                let j = step_entered b s x y (peek a s x f) w (peek_marked a s x f w (subst (λ m. Pending a s x m w) e i.1)) (subst (λ m. Reaches b s m y) e i.2) lt in
                (j.0, j.1, inl j.2))
            | inr on ↦ (
                let j = step_marked a s x i.0 f w i.1 on in
                (j.0, j.1, inr (i.0, j.2, stepped b s x (peek a s x f) i.0 y i.2)))
          ]
    ]
step_marked (Maybe a) s x y f w h lt = step_marked a s x y f w h lt
step_marked (Star a) s x y f w h lt =
    let g = less_of f (peek a s x f) in
    elim (here_or_on x h.0 (pending_forth a s x h.0 w h.1)) [
      | inl e ↦ (
          let there = less_than_right f (peek a s x f) w (peek_marked a s x f w (subst (λ m. Pending a s x m w) e h.1)) in
          let rest : Reaches (Star a) s x y = subst (λ m. Reaches (Star a) s m y) e h.2 in
          let i = first_busy a s g x y w (λ m r on. step_entered a s x m g w there r on) rest.0 rest.1 lt in
          (i.1.0, i.1.1, (i.0, i.1.2, stepped (Star a) s x f i.0 y i.2)))
      | inr on ↦ (
          let i = step_marked a s x h.0 g w h.1 on in
          (i.0, i.1, (h.0, i.2, stepped (Star a) s x f h.0 y h.2)))
    ]
