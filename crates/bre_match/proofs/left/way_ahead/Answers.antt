use Rattle.bre_match.proofs.Tasks.{way_comes}
use Rattle.bre_match.proofs.left.way_ahead.Goals as goal

pub returns : goal.returns
returns c =
    record {
      value = way_comes c.args.left.now.items c.push.new.self.items c.args.item c.args.at c.args.ways c.way_at-way.result c.of-run.result
          c.requires.at c.way_at-way.ensures.value c.of-run.ensures.value c.in_ok-push.ensures.items;
    }
