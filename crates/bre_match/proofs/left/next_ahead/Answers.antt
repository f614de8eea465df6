use Rattle.std.proofs.Common.{◌∙◌, arith}
use Rattle.bre_match.proofs.Tasks.{run_comes, list_comes, list_ends}
use Rattle.bre_match.proofs.left.next_ahead.Goals as goal

pub returns-in-Run-clause-next : goal.returns-in-Run-clause-next
returns-in-Run-clause-next c =
    c.loop-first.invariant
    ∙ run_comes c.loop-first.left.items c.pop.new.self.items c.in-Some.first c.in-Run.ahead c.in-Some.ensures.items c.in-Run.is

pub returns-then-at-len-clause-next : goal.returns-then-at-len-clause-next
returns-then-at-len-clause-next c =
    c.loop-first.invariant
    ∙ list_comes c.loop-first.left.items c.pop.new.self.items c.in-Some.first c.in-List.item c.in-List.at c.in-List.ways
    c.in-Some.ensures.items c.in-List.is
    ∙ c.in_ok-ahead-in-List.ensures.value

pub loop-first-preserved : goal.loop-first-preserved
loop-first-preserved c =
    c.loop-first.invariant
    ∙ list_ends c.loop-first.left.items c.pop.new.self.items c.in-Some.first c.in-List.item c.in-List.at c.in-List.ways
    (let n = c.len.ensures.value in omega (arith, n)) c.in-Some.ensures.items c.in-List.is
