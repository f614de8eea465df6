use Rattle.std.proofs.Common.{◌≡◌, ◌++◌, drop, map}
use Rattle.cert_check.specs.Certificates.{note_value}
use Rattle.ed_calls.specs.Explaining.{explained, explained_from}
use Rattle.ed_calls.proofs.explaining.commands.explain_commands.Given as goal

-- the commands before this one are in
abbrev pub invariant-loop-index : goal.invariant-loop-index
invariant-loop-index l = l.commands.items ++ explained_from l.index (map note_value (drop l.index l.notes)) ≡ explained (map note_value l.notes)
