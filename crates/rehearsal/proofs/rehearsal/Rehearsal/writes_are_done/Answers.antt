use Rattle.std.proofs.Common.{[]}
use Rattle.ed_session.specs.MemFiles.{log_of}
use Rattle.rehearsal.proofs.Appending.{all-done}
use Rattle.rehearsal.proofs.rehearsal.Rehearsal.writes_are_done.Goals as goal

pub returns : goal.returns
returns g c = record { done = all-done (g.O.Outside.log c.args.self.now.real) [] (log_of c.args.self.now.files) c.args.self.now.sound.rehearsed }
