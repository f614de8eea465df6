-- What `clap` is told is the program's own definition.
use Rattle.std.proofs.Common.{◌∙◌, true, ap, ap₂}
use Rattle.clap.specs.Simple.{App, app_of_fields, on_top}
use Rattle.clap.specs.Words.{with_subcommand}
use Rattle.ed_main.specs.Subcommands as meaning
use Rattle.ed_main.proofs.subcommands.program.Goals as goal

pub returns : goal.returns
unfolding meaning.program
returns c =
    let wanted : App → App = on_top (λ s. record s { subcommand_required = true }) in
    let versioned : App → App = on_top (λ s. record s { has_version = true }) in
    let bare_is =
    ap app_of_fields c.subcommand_required.ensures ∙ ap wanted (ap app_of_fields c.version.ensures)
    ∙ ap (λ (a : App). wanted (versioned a)) (ap app_of_fields c.about.ensures ∙ c.new.ensures.app) in
    let top = λ (a : App). a.top in
    record {
      value =
          c.in_ok-command.ensures.shape c.in_ok-fits.ensures.local ∙ ap₂ with_subcommand
          (c.in_ok-subcommand-5.ensures.shape c.in_ok-run.ensures.local ∙ ap₂ with_subcommand
          (c.in_ok-subcommand-4.ensures.shape c.in_ok-check.ensures.local ∙ ap₂ with_subcommand
          (c.in_ok-subcommand-3.ensures.shape c.in_ok-explain.ensures.local ∙ ap₂ with_subcommand
          (c.in_ok-subcommand-2.ensures.shape c.in_ok-vouch.ensures.local ∙ ap₂ with_subcommand
          (c.in_ok-subcommand.ensures.shape c.in_ok-edit.ensures.local ∙ ap₂ with_subcommand bare_is (ap top c.in_ok-edit.ensures.value))
          (ap top c.in_ok-vouch.ensures.value))
          (ap top c.in_ok-explain.ensures.value))
          (ap top c.in_ok-check.ensures.value))
          (ap top c.in_ok-run.ensures.value))
          (ap top c.in_ok-fits.ensures.value);
    }
