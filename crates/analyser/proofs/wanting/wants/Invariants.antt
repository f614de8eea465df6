use Rattle.std.proofs.Common.{◌≡◌, false}
use Rattle.bre_parse.specs.Always.{text_is_always}
use Rattle.ed_syntax.specs.PublicScript.{script_value}
use Rattle.cert_check.specs.checker.Valid.{counted}
use Rattle.analyser.specs.Wanted.{seeks}
use Rattle.analyser.proofs.Going.{counted_from}
use Rattle.analyser.proofs.wanting.wants.Given as goal

-- no command before this one seeks the pattern or brings a line that matches
abbrev pub invariant-commands : goal.invariant-commands
invariant-commands l = record {
  never : text_is_always l.pattern ≡ false;
  left : seeks l.pattern (counted (script_value l.script).steps) ≡ seeks l.pattern (counted_from l.command-items l.command-index);
}
