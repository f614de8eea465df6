-- What `clap` is told of a subcommand is its own definition.
use Rattle.std.proofs.Common.{◌∙◌, ap, map}
use Rattle.std.proofs.lemmas.Result.{IfOk-weaker}
use Rattle.clap.specs.Simple.{app_of_fields}
use Rattle.clap.specs.Words.{rule_of}
use Rattle.ed_main.proofs.SubcommandLemmas.{none_global, taken, taking}
use Rattle.ed_main.proofs.subcommands.subcommand.Goals as goal

pub returns-clause-value : goal.returns-clause-value
returns-clause-value c =
    IfOk-weaker c.args-2.result _ _ (λ command adds. taken c.after_help-command.result command c.args.takes.items c.requires.local adds
    ∙ ap (λ a. taking a (map rule_of c.args.takes.items)) (ap app_of_fields c.after_help-command.ensures ∙ ap app_of_fields c.about.ensures ∙ c.new.ensures.app)) c.args-2.ensures

pub returns-clause-local : goal.returns-clause-local
returns-clause-local c =
    IfOk-weaker c.args-2.result _ _ (λ command adds. none_global c.after_help-command.result command c.args.takes.items c.requires.local (ap (λ f. f.has_globals) c.after_help-command.ensures ∙ ap (λ f. f.has_globals) c.about.ensures ∙ c.new.ensures.local) adds) c.args-2.ensures
