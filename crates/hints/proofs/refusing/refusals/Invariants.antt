use Rattle.std.proofs.Common.{◌≡◌, length}
use Rattle.std.specs.Option.{option_copied}
use Rattle.hints.specs.Passing.{IsAllowed}
use Rattle.hints.specs.Refusals.{AreInTurn}
use Rattle.hints.proofs.refusing.refusals.Given as goal

-- the refusals so far came in turn, and this script and this start are looked at after them
abbrev pub invariant-turns : goal.invariant-turns
invariant-turns l = record {
  in_turn : AreInTurn (option_copied l.file) l.script l.start l.found.items l.current l.opened;
  allowed : IsAllowed l.opened;
  count : length l.found.items ≡ l.turn;
}
