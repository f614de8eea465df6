use Rattle.std.proofs.Common.{rules, ◌≡◌, ◌∷◌, refl}
use Rattle.ed_session.proofs.KeptLemmas.{told_stays}
use Rattle.ed_session.proofs.mem_files.MemFiles.add.Goals as goal

pub returns-clause-added : goal.returns-clause-added
returns-clause-added c =
    let e : c.insert.new.self.items ≡ (c.args.path.now, c.args.bytes) ∷ c.args.self.now.files.items = search rules in
    record {
      now = e;
      same_log = rw e (told_stays _ _ _ c.args.self.now.within);
      same_refused = refl;
      same_refusals = refl;
    }
