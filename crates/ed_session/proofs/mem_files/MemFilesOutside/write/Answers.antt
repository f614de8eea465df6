use Rattle.std.proofs.Common.{rules, ◌≡◌, ◌∷◌, [], ◌++◌}
use Rattle.ed_syntax.specs.declared.request.Request.TheVariants as request
use Rattle.ed_session.specs.declared.kept.KeptAnswer.TheVariants as kept
use Rattle.ed_session.proofs.KeptLemmas.{told_written}
use Rattle.ed_session.proofs.mem_files.MemFilesOutside.write.Goals as goal

pub returns-clause-logged : goal.returns-clause-logged
returns-clause-logged c =
    let m = c.args.self.now in
    let asked = request.Write c.args.path.now c.args.bytes.now in
    let files : c.insert.new.self.items ≡ (c.args.path.now, c.args.bytes.now) ∷ m.files.items = search rules in
    let log : c.push-2.new.self.items ≡ m.log.items ++ (asked, kept.Done) ∷ [] = search rules in
    rw (files, log) (told_written _ _ _ asked m.within)
