use Rattle.std.proofs.Common.{◌≡◌}
use Rattle.ed_rules.specs.Files.{without_letters}
use Rattle.ed_rules.proofs.files.forget_letters.Given as goal

abbrev pub invariant-loop-place : goal.invariant-loop-place
invariant-loop-place l = l.zone ≡ without_letters l.place l.initial.zone
