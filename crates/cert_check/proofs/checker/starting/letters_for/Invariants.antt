-- the letters below give the rest
use Rattle.std.proofs.Common.{◌≡◌, ◌≤◌, ◌++◌}
use Rattle.ed_syntax.specs.PublicScript.{script_value}
use Rattle.cert_check.specs.checker.Beginning.{unnamed_below, letters_for}
use Rattle.cert_check.proofs.checker.starting.letters_for.Given as goal

abbrev pub invariant-loop-below : goal.invariant-loop-below
invariant-loop-below l = record {
  inside : l.below ≤ 26;
  rest : l.letters.items ++ unnamed_below l.below (script_value l.script) l.more ≡ letters_for (script_value l.script) l.count;
}

abbrev pub decreases-loop-below : goal.decreases-loop-below
decreases-loop-below l = l.below
