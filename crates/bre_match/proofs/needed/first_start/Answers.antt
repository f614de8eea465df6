use Rattle.std.proofs.Common.{arith, rules}
use Rattle.bre_match.proofs.Needs.{none_before, none_without}
use Rattle.bre_match.proofs.needed.first_start.Goals as goal

pub returns-in-Some-after_first-clause-sound :
    goal.returns-in-Some-after_first-clause-sound
returns-in-Some-after_first-clause-sound c start le lt =
    none_before c.args.items.now c.index-items-0.result c.args.text.now c.args.from c.in-Some-after_first.after start c.in-Some.set.now.negated c.in-Some.set.now.ranges.items (λ e. search (rules, e)) c.index-items-0.is c.in-Some.ensures.value c.in-Some-after_first.ensures.value le (omega arith)

pub returns-in-None-after_first-clause-sound :
    goal.returns-in-None-after_first-clause-sound
returns-in-None-after_first-clause-sound c start le lt =
    none_without c.args.items.now c.index-items-0.result c.args.text.now c.args.from start c.in-Some.set.now.negated c.in-Some.set.now.ranges.items (λ e. search (rules, e)) c.index-items-0.is c.in-Some.ensures.value c.in-None-after_first.ensures.value le
