use Rattle.ed_syntax.proofs.meaning.ListedLemmas.{global_read}
use Rattle.ed_syntax.proofs.globals.listing.Goals as goal

pub returns-in-Some : goal.returns-in-Some
returns-in-Some c =
    record { value = λ given left. global_read given c.args.sense c.args.pattern c.args.list c.in-Some.list left c.in-Some.is }
