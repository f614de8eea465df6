-- What `clap` is told of `run`.
use Rattle.std.proofs.Common.{◌∙◌, codes, ap, map}
use Rattle.std.proofs.lemmas.Result.{IfOk-weaker}
use Rattle.clap.specs.Words.{rule_of}
use Rattle.ed_main.specs.Subcommands as meaning
use Rattle.ed_main.proofs.SubcommandLemmas.{all_local, and_rules, no_rules}
use Rattle.ed_main.proofs.subcommands.run.Goals as goal

pub subcommand-requires : goal.subcommand-requires
subcommand-requires c =
    record {
      local = all_local _ _ c.in_ok-vec.ensures.items (
        c.whole.ensures.local,
        (
          c.backup.ensures.local,
          (
            c.rehearsed.ensures.local,
            (
              c.diff.ensures.local,
              (
                c.silent.ensures.local,
                (
                  c.script.ensures.local,
                  (
                    c.certificate.ensures.local,
                    (c.file.ensures.local, tt),
                  ),
                ),
              ),
            ),
          ),
        ),
      );
    }

pub returns-clause-value : goal.returns-clause-value
returns-clause-value c =
    IfOk-weaker c.subcommand.result _ _ (λ command is. is ∙ ap (meaning.subcommand (codes "run")) (ap (map rule_of) c.in_ok-vec.ensures.items
    ∙ and_rules c.whole.ensures.value (and_rules c.backup.ensures.value (and_rules c.rehearsed.ensures.value (and_rules c.diff.ensures.value (and_rules c.silent.ensures.value (and_rules c.script.ensures.value (and_rules
    c.certificate.ensures.value (and_rules c.file.ensures.value no_rules))))))))) c.subcommand.ensures.value
