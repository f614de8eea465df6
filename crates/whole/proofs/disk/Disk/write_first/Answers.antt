use Rattle.std.proofs.Common.{ap}
use Rattle.whole.proofs.Drafted.{different-after}
use Rattle.whole.specs.declared.beside.Beside.{Beside}
use Rattle.whole.proofs.disk.Disk.write_first.Goals as goal

pub invariant_of-self : goal.invariant_of-self
invariant_of-self g c =
    let old = c.args.self.now in
    record {
      different = different-after (λ (draft : Beside). draft.file) old.drafts.items c.answer.new.self.drafts.items c.push_reserved.new.self.items c.args.draft
          old.different c.requires.other
          (ap (λ drafts. drafts.items) c.answer.ensures.same_drafts) c.push_reserved.ensures.items;
    }
