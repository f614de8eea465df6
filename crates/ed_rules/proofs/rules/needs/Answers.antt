use Rattle.std.proofs.Common.{◌≡◌, ◌∙◌, ap, None, Some, Option, Result}
use Rattle.std.proofs.lemmas.Result.{IfOk-weaker}
use Rattle.ed_base.specs.declared.fault.Fault.{Fault}
use Rattle.ed_syntax.specs.PublicTypes.{command_value}
use Rattle.ed_rules.specs.declared.state.State.{State}
use Rattle.ed_rules.specs.Reaching.{Comes}
use Rattle.ed_rules.specs.Rules.{fault_of}
use Rattle.ed_rules.proofs.sound.Sound.{needs-met}
use Rattle.ed_rules.proofs.rules.needs.Goals as goal

fault_of-Comes : (failed : Option Fault) (t : State) (should : Result State Fault) → Comes failed t should → fault_of should ≡ failed
fault_of-Comes None t should h = ap fault_of h
fault_of-Comes (Some f) t should h = ap fault_of h

pub returns-clause-sound : goal.returns-clause-sound
returns-clause-sound c =
    IfOk-weaker c.outcome_into.result _ _
    (λ failed comes none e given st. needs-met c.commands_are_sound.ensures.sound _
    (command_value c.args.command.now) c.args.state.now e given (fault_of-Comes failed _ _ comes ∙ none) st)
    c.outcome_into.ensures.exact
