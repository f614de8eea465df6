use Rattle.std.proofs.Common.{◌≡◌, arith}
use Rattle.bre_parse.specs.Tree.{sequence_of}
use Rattle.bre_parse.specs.Ways.{ways}
use Rattle.bre_match.proofs.Spreads.{leads_nowhere}
use Rattle.bre_match.proofs.SpreadSteps.{none_left}
use Rattle.bre_match.proofs.prospect.try_starts.Goals as goal

pub returns-then-is_empty : goal.returns-then-is_empty
returns-then-is_empty c =
    let none : c.in-Some.to.len ≡ 0 = none_left c.in-Some.to.len c.if-is_empty.ensures in
    let ok = c.in-Some.to.ok in
    record {
      sound = λ e. c.in_ok-starts.ensures.rest
          (leads_nowhere c.args.asked.now (ways (sequence_of c.args.items.now) c.args.text.now) c.in_ok-starts.starts.items
          c.in-Some.to.items (omega arith)
          (rw (c.in-Some.is, c.deref.ensures.value) at c.in_ok-to.ensures.value));
    }
