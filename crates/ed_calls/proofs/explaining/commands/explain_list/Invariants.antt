use Rattle.std.proofs.Common.{◌≡◌, ◌++◌, drop}
use Rattle.ed_calls.specs.Explaining.{inner_from}
use Rattle.ed_calls.proofs.explaining.commands.explain_list.Given as goal

-- the commands before this one are in
abbrev pub invariant-loop-index : goal.invariant-loop-index
invariant-loop-index l = l.commands.items ++ inner_from l.number l.index (drop l.index l.states) ≡ l.fn.commands.items ++ inner_from l.number 0 l.states
