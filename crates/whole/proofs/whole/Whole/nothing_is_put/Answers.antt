use Rattle.std.proofs.Common.{[]}
use Rattle.whole.specs.Deeds.{put_path}
use Rattle.whole.proofs.DeedLemmas.{held-put, none-held}
use Rattle.whole.proofs.FileLemmas.{unput-same}
use Rattle.whole.proofs.whole.Whole.nothing_is_put.Goals as goal

pub returns : goal.returns
returns g c =
    let w = c.args.self.now.sound in
    let deeds = g.D.Drafting.log c.args.self.now.drafts in
    record {
      unput = w.unput;
      same_files = λ files. unput-same [] files deeds (none-held put_path held-put deeds w.unput);
    }
