-- the landmarks that are left add the rest
use Rattle.std.proofs.Common.{◌≡◌, ◌++◌, drop}
use Rattle.std.specs.List.{flat_map}
use Rattle.zones.specs.Name.{zero}
use Rattle.landmarks.specs.Starting.{named_below, lines_of, clear_of}
use Rattle.landmarks.proofs.starting.tell_chain.Given as goal

abbrev pub invariant-loop-landmark : goal.invariant-loop-landmark
invariant-loop-landmark l = record {
  lines : l.facts.lines ++ flat_map lines_of (named_below l.before l.left (drop l.landmark-index l.chain)) ≡
      l.initial.facts.lines ++ flat_map lines_of (named_below zero l.names l.chain);
  clear : l.facts.clear ++ flat_map clear_of (named_below l.before l.left (drop l.landmark-index l.chain)) ≡
      l.initial.facts.clear ++ flat_map clear_of (named_below zero l.names l.chain);
}
