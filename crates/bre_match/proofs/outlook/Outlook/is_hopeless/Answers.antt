use Rattle.bre_match.specs.Outlooks.{Before, Begun, NothingWithin}
use Rattle.bre_match.proofs.Hopeless.{kept_at_most}
use Rattle.bre_match.proofs.outlook.Outlook.is_hopeless.Goals as goal

pub nothing_comes-requires-clause-seen : goal.nothing_comes-requires-clause-seen
nothing_comes-requires-clause-seen c steps =
    let old = c.args.self.now in (
      kept_at_most (λ mark. NothingWithin steps c.args.items.now old.at c.args.text.now (Before mark.done mark.way)) old.met.marks.items
          c.keep_at_most.new.self.marks.items c.keep_at_most.ensures.value (c.requires.seen steps).0,
      kept_at_most (λ mark. NothingWithin steps c.args.items.now old.at c.args.text.now (Begun mark)) old.begun.marks.items
          c.keep_at_most-2.new.self.marks.items c.keep_at_most-2.ensures.value (c.requires.seen steps).1,
    )

pub returns-else-not-is_hopeless-clause-seen : goal.returns-else-not-is_hopeless-clause-seen
returns-else-not-is_hopeless-clause-seen c = c.in_ok-is_hopeless.ensures.seen c.if-not-is_hopeless.false
