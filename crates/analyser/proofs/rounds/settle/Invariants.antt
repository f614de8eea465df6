use Rattle.ed_syntax.specs.PublicTypes.{step_value}
use Rattle.analyser.proofs.Rounding.{Rounds, room_of}
use Rattle.analyser.proofs.rounds.settle.Given as goal

-- the rounds before this one don't end
abbrev pub invariant-settling : goal.invariant-settling
invariant-settling l = Rounds l.sight (step_value l.command) l.fn.known l.before l.known

-- each round leaves fewer ways to weaken the invariant
abbrev pub decreases-settling : goal.decreases-settling
decreases-settling l = room_of l.sight (step_value l.command) l.fn.known l.known
