use Rattle.std.proofs.Common.{◌≡◌, map, drop}
use Rattle.ed_syntax.specs.PublicTypes.{steps_value}
use Rattle.cert_check.specs.Certificates.{note_value}
use Rattle.cert_check.specs.checker.Valid.{has_quit}
use Rattle.analyser.proofs.Going.{Going, counted_from}
use Rattle.analyser.proofs.walk.go_through.Given as goal

-- the commands before this one leave what comes in here, and none of them ends the run
abbrev pub invariant-loop-index : goal.invariant-loop-index
invariant-loop-index l = record {
  going : Going l.sight (counted_from l.commands 0) l.fn.start l.index (map note_value l.notes.items) l.writes l.coming.value (counted_from l.commands l.index);
  quit : has_quit (steps_value l.commands) ≡ has_quit (steps_value (drop l.index l.commands));
}
