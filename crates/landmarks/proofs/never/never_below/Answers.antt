-- A pattern of `none` is one that the lines between don't match.
use Rattle.std.proofs.Common.{ℕ, List, arith, subst}
use Rattle.std.specs.Prelude.{Contains}
use Rattle.std.proofs.lemmas.List.Elements.{Contains-append_right}
use Rattle.landmarks.specs.Spelled.{sought_by}
use Rattle.landmarks.specs.ChainFaults.{IsAlwaysIn}
use Rattle.landmarks.proofs.never.never_below.Goals as goal

pub returns-in-Some-2 : goal.returns-in-Some-2
returns-in-Some-2 c =
    let found : IsAlwaysIn c.members.result.now c.in-Some-2.pattern = rw c.in-Some-2.is at c.in_ok-pattern-2.ensures.value in
    let inside = subst (λ (patterns : List (List ℕ)). Contains patterns c.in-Some-2.pattern) c.members.ensures.value found.0 in
    record {
      value = (omega (arith, c.if-landmark-lt2.false), (Contains-append_right (sought_by c.args.landmark.now.which) c.args.landmark.now.none c.in-Some-2.pattern inside, found.1));
    }
