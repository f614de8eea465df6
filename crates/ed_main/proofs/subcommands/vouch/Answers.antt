-- What `clap` is told of `vouch`.
use Rattle.std.proofs.Common.{◌∙◌, codes, ap, map}
use Rattle.std.proofs.lemmas.Result.{IfOk-weaker}
use Rattle.clap.specs.Words.{rule_of}
use Rattle.ed_main.specs.Subcommands as meaning
use Rattle.ed_main.proofs.SubcommandLemmas.{all_local, and_rules, no_rules}
use Rattle.ed_main.proofs.subcommands.vouch.Goals as goal

pub subcommand-requires : goal.subcommand-requires
subcommand-requires c =
    record {
      local = all_local _ _ c.in_ok-vec.ensures.items (
        c.like.ensures.local,
        (
          c.min.ensures.local,
          (
            c.max.ensures.local,
            (
              c.all.ensures.local,
              (
                c.quiet.ensures.local,
                (
                  c.patterns.ensures.local,
                  (
                    c.has.ensures.local,
                    (
                      c.at.ensures.local,
                      (
                        c.scripts.ensures.local,
                        (
                          c.file.ensures.local,
                          tt,
                        ),
                      ),
                    ),
                  ),
                ),
              ),
            ),
          ),
        ),
      );
    }

pub returns-clause-value : goal.returns-clause-value
returns-clause-value c =
    IfOk-weaker c.subcommand.result _ _ (λ command is. is ∙ ap (meaning.subcommand (codes "vouch")) (ap (map rule_of) c.in_ok-vec.ensures.items
    ∙ and_rules c.like.ensures.value (and_rules c.min.ensures.value (and_rules c.max.ensures.value (and_rules c.all.ensures.value
    (and_rules c.quiet.ensures.value (and_rules c.patterns.ensures.value (and_rules c.has.ensures.value (and_rules c.at.ensures.value
    (and_rules c.scripts.ensures.value (and_rules c.file.ensures.value no_rules))))))))))) c.subcommand.ensures.value
