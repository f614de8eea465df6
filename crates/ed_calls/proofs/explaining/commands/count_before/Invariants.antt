use Rattle.std.proofs.Common.{◌≡◌, ◌++◌, drop, take}
use Rattle.ed_calls.specs.Explaining.{up_to}
use Rattle.ed_calls.proofs.explaining.commands.count_before.Given as goal

-- the commands before this one come before the place
abbrev pub invariant-loop-index : goal.invariant-loop-index
invariant-loop-index l = up_to l.place l.commands ≡ take l.index l.commands ++ up_to l.place (drop l.index l.commands)
