-- the patterns that are left add the rest
use Rattle.std.proofs.Common.{◌≡◌, ◌++◌, drop, map}
use Rattle.landmarks.specs.Starting.{clear_between}
use Rattle.landmarks.proofs.starting.tell_all_clear.Given as goal

abbrev pub invariant-loop-pattern : goal.invariant-loop-pattern
invariant-loop-pattern l = record {
  lines : l.facts.lines ≡ l.initial.facts.lines;
  clear : l.facts.clear ++ map (clear_between l.after l.before) (drop l.pattern-index l.patterns) ≡ l.initial.facts.clear ++ map
      (clear_between l.after l.before) l.patterns;
}
