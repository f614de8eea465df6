-- Names and sure marks: what the zone of a rule speaks of on the way, and what that of a state does.
use Rattle.std.proofs.Common.{◌≡◌, ◌≢◌, ◌<◌, ◌≤◌, ◌-◌, ◌⊎◌, ◌&&◌, inl, inr, ℕ, zero, suc, ℤ, Bool, true, false, List, length, get_or, set, get_or-set_other, get_or-set_same, ◌∙◌, sym, ap, arith}
use Rattle.std.specs.Prelude.{nat_lt, nat_le, slice_set}
use Rattle.std.proofs.lemmas.Bool.{lt-ltb, le-ltb, le-leb, lt-leb, ltb-false, or_parts, or_right, or_left, and_from, and_cases, and_left, and_right, or_from, cases_lt}
use Rattle.std.proofs.lemmas.Bool.Decides.{eqb_tells}
use Rattle.std.proofs.lemmas.List.FromFn.{get_or-map-range_with_len, length-map-range_with_len}
use Rattle.zones.specs.Name.{mark}
use Rattle.zones.specs.Zone.{Bounds}
use Rattle.zones.specs.Steps.{after_set, after_forget}
use Rattle.zones.specs.Isolated.{IsIsolated}
use Rattle.zones.proofs.Isolated.{IsIsolated-after_forget, IsIsolated-forgotten}
use Rattle.ed_rules.specs.Marks.{is_sure, no_marks, both_sure}
use Rattle.ed_rules.specs.Formed.{has_name}
-- on the way through a rule a zone speaks of the addresses too
pub use Rattle.ed_rules.specs.Following.{is_spoken}
use Rattle.ed_rules.specs.Pieces.{without_addresses}
use Rattle.ed_rules.specs.Files.{without_letters}
use Rattle.ed_rules.proofs.formed.Speaking.{Speaks, IsNamed, Speaks-set, Speaks-forget, Speaks-more, IsOfBoth}

pub low-spoken : (marks : List Bool) (x : ℕ) → x < 6 → IsNamed (is_spoken marks) x
low-spoken marks x h = record { inside = omega arith; named = or_left (nat_lt x 6) (is_sure marks (x - 6)) (lt-ltb x 6 h) }

letter-place : (letter : ℕ) → mark letter - 6 ≡ letter
letter-place letter = omega arith

sure-place : (marks : List Bool) (letter : ℕ) → is_sure marks letter ≡ true → is_sure marks (mark letter - 6) ≡ true
sure-place marks letter e = ap (λ (k : ℕ). get_or marks k false) (letter-place letter) ∙ e

pub letter-spoken : (marks : List Bool) (letter : ℕ) → letter < 26 → is_sure marks letter ≡ true → IsNamed (is_spoken marks) (mark letter)
letter-spoken marks letter h e =
    record { inside = omega arith; named = or_right (nat_lt (mark letter) 6) (is_sure marks (mark letter - 6)) (sure-place marks letter e) }

pub letter-named : (marks : List Bool) (letter : ℕ) → letter < 26 → is_sure marks letter ≡ true → IsNamed (has_name marks) (mark letter)
letter-named marks letter h e = record {
  inside = omega arith;
  named =
      or_right (nat_lt (mark letter) 3) (nat_le 6 (mark letter) && is_sure marks (mark letter - 6))
      (and_from (nat_le 6 (mark letter)) (is_sure marks (mark letter - 6)) (le-leb 6 (mark letter) (omega arith)) (sure-place marks letter e));
}

-- a name that isn't spoken of is that of a letter
unspoken : (marks : List Bool) (x : ℕ) → is_spoken marks x ≡ false → (6 ≤ x) × (is_sure marks (x - 6) ≡ false)
unspoken marks x n = let p = or_parts (nat_lt x 6) (is_sure marks (x - 6)) n in (ltb-false x 6 p.0, p.1)

is-unspoken : (marks : List Bool) (x : ℕ) → 6 ≤ x → is_sure marks (x - 6) ≡ false → is_spoken marks x ≡ false
is-unspoken marks x h e = or_from (nat_lt x 6) (is_sure marks (x - 6)) (le-ltb x 6 h) e

is-unnamed : (marks : List Bool) (x : ℕ) → 6 ≤ x → is_sure marks (x - 6) ≡ false → has_name marks x ≡ false
is-unnamed marks x h e =
    or_from (nat_lt x 3) (nat_le 6 x && is_sure marks (x - 6)) (le-ltb x 3 (omega arith)) (and_right (nat_le 6 x) (is_sure marks (x - 6)) e)

unnamed-unspoken : (marks : List Bool) (x : ℕ) → x ≢ 3 → x ≢ 4 → x ≢ 5 → has_name marks x ≡ false → is_spoken marks x ≡ false
unnamed-unspoken marks x n3 n4 n5 n =
    let p = or_parts (nat_lt x 3) (nat_le 6 x && is_sure marks (x - 6)) n in
    let h : 3 ≤ x = ltb-false x 3 p.0 in
    let l : 6 ≤ x = omega arith in
    is-unspoken marks x l (elim (and_cases (nat_le 6 x) (is_sure marks (x - 6)) p.1) [ inl e ↦ absurd (let t = le-leb 6 x l in cc) | inr e ↦ e ])

pub Speaks-spoken : (marks : List Bool) (zone : Bounds) → Speaks (has_name marks) zone → Speaks (is_spoken marks) zone
Speaks-spoken marks zone h = Speaks-more (has_name marks) (is_spoken marks) zone (λ x n. let u = unspoken marks x n in is-unnamed marks x u.0 u.1) h

-- any name may be forgotten
pub Speaks-forgetting : (names : ℕ → Bool) (zone : Bounds) (x : ℕ) → Speaks names zone → Speaks names (after_forget zone x)
Speaks-forgetting names zone x h = Speaks-forget names names zone x (λ z n e. e) h

pub Speaks-without_addresses : (marks : List Bool) (zone : Bounds) → Speaks (is_spoken marks) zone → Speaks (has_name marks) (without_addresses zone)
Speaks-without_addresses marks zone h =
    let one : Bounds = after_forget zone 3 in
    let two : Bounds = after_forget one 4 in
    let s = Speaks-forgetting (is_spoken marks) two 5 (Speaks-forgetting (is_spoken marks) one 4 (Speaks-forgetting (is_spoken marks) zone 3 h)) in
    record {
      is_zone = s.is_zone;
      low = s.low;
      silent = λ x hx n. elim (eqb_tells x 3) [
        | inl e ↦ rw e.1 (IsIsolated-after_forget two 3 5 (omega arith) (omega arith) (IsIsolated-after_forget one 3 4 (omega arith) (omega arith) (IsIsolated-forgotten zone 3 (omega arith))))
        | inr e3 ↦ elim (eqb_tells x 4) [
          | inl e ↦ rw e.1 (IsIsolated-after_forget two 4 5 (omega arith) (omega arith) (IsIsolated-forgotten one 4 (omega arith)))
          | inr e4 ↦ elim (eqb_tells x 5) [
            | inl e ↦ rw e.1 (IsIsolated-forgotten two 5 (omega arith))
            | inr e5 ↦ s.silent x hx (unnamed-unspoken marks x e3.1 e4.1 e5.1 n)
          ]
        ]
      ];
    }

-- LETTERS

-- a letter that is no longer sure is forgotten
pub Speaks-lost : (marks : List Bool) (zone : Bounds) (letter : ℕ) → Speaks (is_spoken marks) zone → Speaks (is_spoken (slice_set marks letter false)) (after_forget zone (mark letter))
Speaks-lost marks zone letter h =
    Speaks-forget (is_spoken marks) (is_spoken (slice_set marks letter false)) zone (mark letter)
    (λ z ne n.
    let u = unspoken (slice_set marks letter false) z n in
    let l : 6 ≤ z = u.0 in
    let other : z - 6 ≢ letter = λ e. ne (omega arith) in
    is-unspoken marks z l (sym (get_or-set_other marks letter (z - 6) false false other) ∙ u.1)) h

set-spoken : (marks : List Bool) (letter x : ℕ) → letter < length marks → is_spoken (slice_set marks letter true) x ≡ false → is_spoken marks x ≡ false
set-spoken marks letter x h n =
    let u = unspoken (slice_set marks letter true) x n in
    elim (eqb_tells (x - 6) letter) [
      | inl e ↦ absurd (let same = get_or-set_same marks letter true false h in let at = ap (λ (k : ℕ). get_or (set marks letter true) k false) e.1 in let off = u.1 in cc)
      | inr e ↦ is-unspoken marks x u.0 (sym (get_or-set_other marks letter (x - 6) true false e.1) ∙ u.1)
    ]

-- a letter becomes sure, and is set
pub Speaks-marked : (marks : List Bool) (zone : Bounds) (letter x : ℕ) (c : ℤ) → letter < 26 → x < 6 → length marks ≡ 26 → Speaks (is_spoken marks) zone →
    Speaks (is_spoken (slice_set marks letter true)) (after_set zone (mark letter) x c)
Speaks-marked marks zone letter x c h hx size s =
    let many : List Bool = slice_set marks letter true in
    let here : letter < length marks = omega arith in
    Speaks-set (is_spoken many) zone (mark letter) x c (letter-spoken many letter h (get_or-set_same marks letter true false here)) (low-spoken many x hx)
    (Speaks-more (is_spoken marks) (is_spoken many) zone (λ z n. set-spoken marks letter z here n) s)

-- the letters of both
sure-both : (one other : List Bool) (letter : ℕ) → letter < 26 → is_sure (both_sure one other) letter ≡ (is_sure one letter && is_sure other letter)
unfolding both_sure
sure-both one other letter h = get_or-map-range_with_len (λ (k : ℕ). get_or one k false && get_or other k false) 0 26 letter letter false h (omega arith)

pub length-both_sure : (one other : List Bool) → length (both_sure one other) ≡ 26
unfolding both_sure
length-both_sure one other = length-map-range_with_len (λ (k : ℕ). get_or one k false && get_or other k false) 0 26

not-both : (one other : List Bool) (x : ℕ) → x < 32 → 6 ≤ x → is_sure (both_sure one other) (x - 6) ≡ false → (is_sure one (x - 6) ≡ false) ⊎ (is_sure other (x - 6) ≡ false)
not-both one other x hx h e = and_cases (is_sure one (x - 6)) (is_sure other (x - 6)) (sym (sure-both one other (x - 6) (omega arith)) ∙ e)

pub spoken-both : (one other : List Bool) → IsOfBoth (is_spoken one) (is_spoken other) (is_spoken (both_sure one other))
spoken-both one other x hx n =
    let u = unspoken (both_sure one other) x n in
    elim (not-both one other x hx u.0 u.1) [ inl e ↦ inl (is-unspoken one x u.0 e) | inr e ↦ inr (is-unspoken other x u.0 e) ]

named-middle : (marks : List Bool) (x : ℕ) → 3 ≤ x → x < 6 → has_name marks x ≡ false
named-middle marks x h k =
    or_from (nat_lt x 3) (nat_le 6 x && is_sure marks (x - 6)) (le-ltb x 3 h) (and_left (nat_le 6 x) (is_sure marks (x - 6)) (lt-leb 6 x k))

pub named-both : (one other : List Bool) → IsOfBoth (has_name one) (has_name other) (has_name (both_sure one other))
named-both one other x hx n =
    let p = or_parts (nat_lt x 3) (nat_le 6 x && is_sure (both_sure one other) (x - 6)) n in
    let h : 3 ≤ x = ltb-false x 3 p.0 in
    elim (cases_lt x 6) [
      | inl k ↦ inl (named-middle one x h k)
      | inr k ↦ elim (and_cases (nat_le 6 x) (is_sure (both_sure one other) (x - 6)) p.1) [
        | inl e ↦ absurd (let t = le-leb 6 x k in cc)
        | inr e ↦ elim (not-both one other x hx k e) [ inl o ↦ inl (is-unnamed one x k o) | inr o ↦ inr (is-unnamed other x k o) ]
      ]
    ]

-- ALL LETTERS

Speaks-without_letters : (names : ℕ → Bool) (zone : Bounds) (k : ℕ) → Speaks names zone → Speaks names (without_letters k zone)
unfolding without_letters
Speaks-without_letters names zone zero h = h
Speaks-without_letters names zone (suc k) h = Speaks-forgetting names (without_letters k zone) (mark k) (Speaks-without_letters names zone k h)

IsIsolated-without_letters : (zone : Bounds) (k letter : ℕ) → k ≤ 26 → letter < k → IsIsolated (without_letters k zone) (mark letter)
unfolding without_letters
IsIsolated-without_letters zone zero letter h l = absurd (omega arith)
IsIsolated-without_letters zone (suc k) letter h l =
    elim (eqb_tells letter k) [
      | inl e ↦ rw e.1 (IsIsolated-forgotten (without_letters k zone) (mark k) (omega arith))
      | inr e ↦
          let ne : letter ≢ k = e.1 in
          IsIsolated-after_forget (without_letters k zone) (mark letter) (mark k) (omega arith) (λ q. ne (omega arith))
          (IsIsolated-without_letters zone k letter (omega arith) (omega arith))
    ]

pub Speaks-without_letters_all : (marks : List Bool) (zone : Bounds) → Speaks (is_spoken marks) zone → Speaks (is_spoken no_marks) (without_letters 26 zone)
Speaks-without_letters_all marks zone h =
    let s = Speaks-without_letters (is_spoken marks) zone 26 h in
    record {
      is_zone = s.is_zone;
      low = s.low;
      silent = λ x hx n.
          let u = unspoken no_marks x n in
          let l : 6 ≤ x = u.0 in
          let at : mark (x - 6) ≡ x = omega arith in
          rw at at (IsIsolated-without_letters zone 26 (x - 6) (omega arith) (omega arith));
    }
