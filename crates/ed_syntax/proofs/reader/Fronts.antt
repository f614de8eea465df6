-- The first of some bytes and those after it, as a slice is taken apart.
use Rattle.std.proofs.Common.{◌≡◌, ℕ, suc, ◌-◌, ◌<◌, ◌≤◌, List, [], ◌∷◌, length, get_or, take, drop, refl, sym, ap, arith}
use Rattle.std.proofs.lemmas.List.{take_all}

-- the bytes after the first
abbrev pub after_first : List ℕ → List ℕ
after_first bytes = take (length bytes - 1) (drop 1 bytes)

pub first_and_others : (bytes : List ℕ) → 1 ≤ length bytes → bytes ≡ get_or bytes 0 0 ∷ after_first bytes
first_and_others [] some = absurd (omega arith)
first_and_others (b ∷ bytes) some = ap (λ (others : List ℕ). b ∷ others) (sym (take_all (suc (length bytes) - 1) bytes (omega arith)))

-- of no bytes the first counts as 0
pub no_first : (bytes : List ℕ) → length bytes < 1 → get_or bytes 0 0 ≡ 0
no_first [] none = refl
no_first (b ∷ bytes) none = absurd (omega arith)
