use Rattle.std.proofs.Common.{◌≡◌, ℕ, List, take, Bor}
use Rattle.std.specs.HashSet.{contains}
use Rattle.std.specs.Cmp.Lexicographic.{pointwise}
use Rattle.std.specs.Prelude.{nat_eq}
use Rattle.ed_main.specs.Diffs.{first_paths}
use Rattle.ed_main.proofs.FirstPaths.{has}
use Rattle.ed_main.proofs.diffs.written_paths.Given as goal

abbrev pub invariant-loop-write : goal.invariant-loop-write
invariant-loop-write l = record {
  paths : l.paths.items ≡ first_paths (take l.write-index l.writes);
  seen : (q : Bor (List ℕ)) → contains (λ x y. pointwise nat_eq x.now y.now) l.seen q ≡ has l.paths.items q.now;
}
