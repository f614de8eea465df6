-- the patterns that are left add the rest
use Rattle.std.proofs.Common.{◌≡◌, ◌++◌, drop, map}
use Rattle.landmarks.specs.Starting.{line_fact}
use Rattle.landmarks.proofs.starting.tell_lines.Given as goal

abbrev pub invariant-loop-pattern : goal.invariant-loop-pattern
invariant-loop-pattern l = record {
  lines : l.facts.lines ++ map (line_fact l.x l.matches) (drop l.pattern-index l.patterns) ≡ l.initial.facts.lines ++ map
      (line_fact l.x l.matches) l.patterns;
  clear : l.facts.clear ≡ l.initial.facts.clear;
}
