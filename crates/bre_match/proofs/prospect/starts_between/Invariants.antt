use Rattle.std.proofs.Common.{◌≡◌, []}
use Rattle.bre_parse.specs.Tree.{sequence_of}
use Rattle.bre_parse.specs.Ways.{ways}
use Rattle.bre_match.specs.Outlooks.{Each}
use Rattle.bre_match.specs.Spreads.{NoneBetween}
use Rattle.bre_match.proofs.prospect.starts_between.Given as goal

abbrev pub invariant-loop-start : goal.invariant-loop-start
invariant-loop-start l =
    Each (λ way. ways (sequence_of l.items) l.text way.0 way.1 ≡ []) l.all.items → NoneBetween (sequence_of l.items) l.text l.low l.start
