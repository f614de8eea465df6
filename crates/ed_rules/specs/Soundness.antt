-- Soundness of one command: what a rule vouches for meets no fault but that of a file, asks to write only what the rule tells, and the
-- rule's state stands for what the command leaves.
use Rattle.std.specs.Prelude.{◌≡◌, ℕ, true, List, Option, Some, None, Result, Ok, Err, IsFalse}
use Rattle.ed_base.specs.declared.fault.Fault.{Fault}
use Rattle.ed_base.specs.declared.fault.Fault.TheVariants as fault
use Rattle.ed_syntax.specs.declared.request.Answer.{Answer}
use Rattle.ed_syntax.specs.declared.request.Request.{Request}
use Rattle.ed_syntax.specs.declared.request.Request.TheVariants as request
use Rattle.ed_syntax.specs.Commands.{Command}
use Rattle.ed_syntax.specs.meaning.States as editor
use Rattle.ed_syntax.specs.meaning.Effects.{Effect, Makes, Asks}
use Rattle.ed_syntax.specs.meaning.Applied.{command}
use Rattle.ed_syntax.specs.meaning.Laws.{serves}
use Rattle.ed_rules.specs.declared.state.State.{State}
use Rattle.ed_rules.specs.Choices.{has_choice}
use Rattle.ed_rules.specs.StandsFor.{StandsFor}
use Rattle.ed_rules.specs.Files.{written_paths}
use Rattle.ed_rules.specs.Rules.{step}

-- A fault comes only of an answer, and of one that doesn't serve what the command asked for.
abbrev pub IsUnserved : Command → editor.State → Option Answer → Fault → Type 0
IsUnserved c e None f = ⊥
IsUnserved c e (Some a) f = (r : Request) × (command e c None ≡ Ok (Asks r)) × IsFalse (serves r a) × (f ≡ fault.File)

-- A command asks only once; it may ask for any file to be read, and for one to be written whose path is one of its rule's.
abbrev pub MayAskFor : Command → (before : State) → Option Answer → Request → Type 0
MayAskFor c s None (request.Read path) = Unit {0}
MayAskFor c s None (request.Write path bytes) = has_choice (written_paths c.verb s) (Some path) ≡ true
MayAskFor c s (Some a) r = ⊥

-- What a command comes to, with or without an answer: what it makes is a state that the one after it stands for.
abbrev pub IsDone : Command → (before after : State) → editor.State → Option Answer → Result Effect Fault → Type 0
IsDone c s t e given (Ok (Makes o)) = StandsFor t o.state
IsDone c s t e given (Ok (Asks r)) = MayAskFor c s given r
IsDone c s t e given (Err f) = IsUnserved c e given f

-- Of each state of an editor that a state stands for, and each answer: where the needs of a command hold, the command does as its rule
-- says, and the state of its rule stands for what it leaves.
abbrev pub CommandIsSound : Type 0
CommandIsSound = (watched : List (List ℕ)) (c : Command) (s t : State) (e : editor.State) (given : Option Answer) → StandsFor s e → step watched c s ≡ Ok t →
    IsDone c s t e given (command e c given)
