-- What `clap` is told of `explain`.
use Rattle.std.proofs.Common.{◌∙◌, codes, ap, map}
use Rattle.std.proofs.lemmas.Result.{IfOk-weaker}
use Rattle.clap.specs.Words.{rule_of}
use Rattle.ed_main.specs.Subcommands as meaning
use Rattle.ed_main.proofs.SubcommandLemmas.{all_local, and_rules, no_rules}
use Rattle.ed_main.proofs.subcommands.explain.Goals as goal

pub subcommand-requires : goal.subcommand-requires
subcommand-requires c =
    record {
      local = all_local _ _ c.in_ok-vec.ensures.items (
        c.like.ensures.local,
        (
          c.min.ensures.local,
          (
            c.max.ensures.local,
            (
              c.patterns.ensures.local,
              (
                c.has.ensures.local,
                (c.at.ensures.local, (c.script.ensures.local, (c.notes.ensures.local, tt))),
              ),
            ),
          ),
        ),
      );
    }

pub returns-clause-value : goal.returns-clause-value
returns-clause-value c =
    IfOk-weaker c.subcommand.result _ _ (λ command is. is ∙ ap (meaning.subcommand (codes "explain")) (ap (map rule_of) c.in_ok-vec.ensures.items
    ∙ and_rules c.like.ensures.value (and_rules c.min.ensures.value (and_rules c.max.ensures.value (and_rules c.patterns.ensures.value
    (and_rules c.has.ensures.value (and_rules c.at.ensures.value (and_rules c.script.ensures.value (and_rules c.notes.ensures.value
    no_rules))))))))) c.subcommand.ensures.value
