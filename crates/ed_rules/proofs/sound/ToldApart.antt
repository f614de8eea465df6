-- A letter's line that is told from the one that is addressed is before or after it.
use Rattle.std.proofs.Common.{◌≡◌, ◌<◌, ◌≤◌, inl, inr, ℕ, ◌+◌, pos, ◌&&◌, true, List, length, arith}
use Rattle.std.specs.Prelude.{◌⊎◌}
use Rattle.std.proofs.lemmas.Int.{ints}
use Rattle.std.proofs.lemmas.Bool.{cases_lt, and_parts}
use Rattle.ed_base.specs.Buffer.{Line}
use Rattle.zones.specs.Name.{mark}
use Rattle.zones.specs.Zone.{Numbers, Holds}
use Rattle.zones.specs.Known.{known}
use Rattle.zones.proofs.Known.{known-true}
use Rattle.ed_rules.specs.declared.state.State.{State}
use Rattle.ed_rules.specs.Pieces.{is_told_apart}
use Rattle.ed_rules.specs.facts.Facts.{differ}
use Rattle.ed_rules.proofs.facts.FactsTold.{differ-true}
use Rattle.ed_rules.proofs.sound.Following.{FollowedHold}
use Rattle.ed_rules.proofs.sound.Inserting.{OnLine}
use Rattle.ed_rules.proofs.sound.LettersInLines.{line_with-range}

pub apart-sides : (s : State) (k a b : ℕ) (ls : List Line) (v : Numbers) → k < 26 → is_told_apart s.zone k s ≡ true → Holds s.zone v → FollowedHold s v ls →
    v 3 ≡ pos a → v 4 ≡ pos b → 1 ≤ a → a ≤ b → b ≤ length ls → (o : OnLine k ls v) → (b ≤ a) × ((o.0 < a) ⊎ (b < o.0))
apart-sides s k a b ls v hk e holds followed va vb from order inside o =
    let p = and_parts s.follows (known s.zone 4 3 (pos 0) && differ s.zone s.facts (mark k) 3) e in
    let q = and_parts (known s.zone 4 3 (pos 0)) (differ s.zone s.facts (mark k) 3) p.1 in
    let d = known-true s.zone v 4 3 (pos 0) q.0 (omega arith) (omega arith) holds in
    let one : b ≤ a = omega (arith, ints) in
    let r = line_with-range k ls o.0 o.1 in (
      one,
      elim (cases_lt o.0 a) [
        | inl before ↦ inl before
        | inr low ↦ elim (cases_lt b o.0) [
          | inl after ↦ inr after
          | inr high ↦
              let same : o.0 ≡ a = omega arith in
              absurd (differ-true s.zone s.facts v ls (6 + k) 3 o.0 a q.1 (omega arith) (omega arith) holds (followed p.0) o.2 r.0 r.1 va from (omega arith) same)
        ]
      ],
    )
