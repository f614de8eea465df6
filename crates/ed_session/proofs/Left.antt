-- The next piece and what comes after it.
use Rattle.std.proofs.Common.{◌≡◌, ◌<◌, ℕ, List, [], ◌∷◌, ◌++◌, length, refl, arith}
use Rattle.ed_session.specs.Chunks.{left}

-- where there is a next piece, it and what comes after it are left
pub left-piece : (piece after : List ℕ) → 0 < length piece → left piece after ≡ piece ++ after
left-piece [] after h = absurd (omega arith)
left-piece (byte ∷ piece) after h = refl
