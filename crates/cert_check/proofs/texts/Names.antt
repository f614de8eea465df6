-- Names, letters and the bytes that stand for them.
use Rattle.std.proofs.Common.{◌≡◌, ◌<◌, ◌+◌, ◌-◌, ◌==◌, ◌∷◌, [], ℕ, Bool, ◌&&◌, ◌||◌, List, arith, ◌∙◌, ap}
use Rattle.std.specs.Prelude.{nat_lt, nat_le}
use Rattle.std.proofs.lemmas.Bool.{le-ltb, le-leb, lt-leb}
use Rattle.std.proofs.Math.Bool.{or-false}
use Rattle.ed_rules.specs.Marks.{is_sure}
use Rattle.ed_rules.specs.Formed.{has_name}

-- the name of a letter
pub has-letter : (marks : List Bool) (letter name : ℕ) → 6 + letter ≡ name → has_name marks name ≡ is_sure marks letter
has-letter marks letter name is =
    let at : name - 6 ≡ letter = omega arith in
    ap (λ (b : Bool). b || (nat_le 6 name && is_sure marks (name - 6))) (le-ltb name 3 (omega arith))
    ∙ ap (λ (b : Bool). b && is_sure marks (name - 6)) (le-leb 6 name (omega arith)) ∙ ap (λ (k : ℕ). is_sure marks k) at

-- any other name
pub has-fixed : (marks : List Bool) (name : ℕ) → name < 6 → has_name marks name ≡ nat_lt name 3
has-fixed marks name low =
    ap (λ (b : Bool). nat_lt name 3 || (b && is_sure marks (name - 6))) (lt-leb 6 name low) ∙ or-false (nat_lt name 3)
