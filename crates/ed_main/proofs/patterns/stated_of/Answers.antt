-- Where patterns are told of, the set is stated.
use Rattle.ed_main.proofs.GivenPatterns.{none_stated, set_stated, some_stated}
use Rattle.ed_main.proofs.patterns.stated_of.Goals as goal

pub returns-then-asked-clause-value : goal.returns-then-asked-clause-value
returns-then-asked-clause-value c = rw (c.if-asked.true, c.in_ok-set.ensures.value) (set_stated c.args.texts.now)

pub returns-then-is_empty-clause-value : goal.returns-then-is_empty-clause-value
returns-then-is_empty-clause-value c = rw c.if-asked.false (none_stated c.args.texts.now c.if-is_empty.ensures)

pub returns-clause-value : goal.returns-clause-value
returns-clause-value c = rw c.in_ok-set.ensures.value (some_stated c.args.asked c.args.texts.now c.if-is_empty.ensures)
