-- of the letters before the next one, those that the script doesn't name were counted
use Rattle.std.proofs.Common.{◌≡◌, ◌≤◌}
use Rattle.ed_syntax.specs.PublicScript.{script_value}
use Rattle.cert_check.specs.checker.Beginning.{count_unnamed}
use Rattle.cert_check.proofs.checker.starting.letters_left.Given as goal

abbrev pub invariant-loop-place : goal.invariant-loop-place
invariant-loop-place l = record {
  counted : l.left ≡ count_unnamed l.place (script_value l.script);
  few : l.left ≤ l.place;
}
