-- The start of a known number of lines.
use Rattle.std.proofs.Common.{◌≡◌, ◌≤◌, ◌==◌, ℕ, zero, suc, ℤ, pos, neg_ℤ, Bool, true, false, List, length, Some, arith, refl, ◌∙◌, sym}
use Rattle.std.proofs.lemmas.Int.{ints}
use Rattle.std.proofs.lemmas.Bool.{eqb-true, ltb-true}
use Rattle.zones.specs.Zone.{Bounds, Numbers}
use Rattle.zones.specs.Steps.{any_zone, after_guard, after_set}
use Rattle.zones.specs.Differences.{Fixes, with_name}
use Rattle.zones.proofs.Kept.{IsZone-any_zone}
use Rattle.zones.proofs.Diagonal.{HasLowDiagonal-any_zone}
use Rattle.zones.proofs.Soundness.{Holds-any_zone}
use Rattle.zones.proofs.Fixed.{Fixes-any_zone, Fixes-fewer, Fixes-after_set}
use Rattle.zones.proofs.Guarded.{Fixes-after_guards}
use Rattle.ed_syntax.specs.meaning.States as editor
use Rattle.ed_rules.specs.Choices.{Choice}
use Rattle.ed_rules.specs.States.{start}
use Rattle.ed_rules.specs.LineBounds.{most_lines}
use Rattle.ed_rules.specs.ExactRules.{StartIsExact}
use Rattle.ed_rules.proofs.exact.Zones.{numbers, below, IsSmall, AreSmall, At, small-at, kept-small, changes-current}
use Rattle.ed_rules.proofs.exact.Pieces.{small-line}
use Rattle.ed_rules.proofs.exact.Addresses.{Sees}
use Rattle.ed_rules.proofs.exact.Commands.{sees-Tells}

-- zero alone
abbrev is_zero : ℕ → Bool
is_zero p = p == 0

-- zero and the last line
abbrev is_end : ℕ → Bool
is_end = with_name 2 is_zero

module _ (n : ℕ) (few : n ≤ most_lines) where
  abbrev v : Numbers
  v = numbers (pos 0) (pos n) (pos 0) (pos 0) (pos 0)

  abbrev w : Numbers
  w = numbers (pos n) (pos n) (pos 0) (pos 0) (pos 0)

  small : IsSmall (pos 0)
  small = (omega (arith, ints), omega (arith, ints))

  all-small : (c : ℤ) → IsSmall c → AreSmall c (pos n) (pos 0) (pos 0) (pos 0)
  all-small c h = record { current = h; last = small-line n (omega arith); first = small; second = small; target = small }

  abbrev lines : Bounds
  lines = after_guard (after_guard any_zone 0 2 (neg_ℤ (pos n))) 2 0 (pos n)

  lines-fixed : Fixes lines is_end v
  lines-fixed =
      Fixes-after_guards any_zone 2 0 (pos n) is_zero v (omega arith) (omega arith) IsZone-any_zone HasLowDiagonal-any_zone
      (Holds-any_zone v)
      (Fixes-any_zone is_zero v (λ p q hp hq. eqb-true p 0 hp ∙ sym (eqb-true q 0 hq))) refl (omega (arith, ints))
      (λ q hq f. kept-small (v 2) (v q) (small-at (pos 0) (pos n) (pos 0) (pos 0) (pos 0) (all-small (pos 0) small) 2)
      (small-at (pos 0) (pos n) (pos 0) (pos 0) (pos 0) (all-small (pos 0) small) q))

  abbrev buffer : Bounds
  buffer = after_set lines 1 2 (pos 0)

  three : (p : ℕ) → below 3 p ≡ true → with_name 1 is_end p ≡ true
  three zero e = refl
  three (suc zero) e = refl
  three (suc (suc zero)) e = refl
  three (suc (suc (suc p))) e = let bad = ltb-true (suc (suc (suc p))) 3 e in absurd (omega arith)

  buffer-at : At buffer 3 (pos n) (pos n) (pos 0) (pos 0) (pos 0)
  buffer-at =
      let s : AreSmall (pos n) (pos n) (pos 0) (pos 0) (pos 0) = all-small (pos n) (small-line n (omega arith)) in
      record {
        fixed = Fixes-fewer buffer (with_name 1 is_end) (below 3) w three
            (Fixes-after_set lines 1 2 (pos 0) is_end v w (omega arith) (omega arith) refl lines-fixed
            (changes-current (pos 0) (pos n) (pos n) (pos 0) (pos 0) (pos 0)) (omega (arith, ints))
            (λ q hq f. kept-small (w 1) (w q) (small-at (pos n) (pos n) (pos 0) (pos 0) (pos 0) s 1)
            (small-at (pos n) (pos n) (pos 0) (pos 0) (pos 0) s q)));
        small = s;
      }

start-sees : (path : Choice) (n : ℕ) (has : List (List ℕ)) (e : editor.State) → e.name ≡ path → length e.lines ≡ n → e.current ≡ n → e.changed ≡ false →
    n ≤ most_lines → Sees 3 (pos 0) (pos 0) (pos 0) (start path n (Some n) has) e
unfolding start
start-sees path n has e name size current flag few = record {
  zone = rw (size, current) (buffer-at n few);
  marks = refl;
  names = rw name refl;
  changed = rw flag refl;
  inside = rw (size, current) (omega arith);
  few = rw size few;
}

pub start-exact : StartIsExact
start-exact path n has e name lines current flag few = sees-Tells (start path n (Some n) has) e (start-sees path n has e name lines current flag few)
