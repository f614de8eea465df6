use Rattle.std.proofs.Common.{◌≡◌, drop, map}
use Rattle.std.specs.List.{flat_map}
use Rattle.ed_syntax.specs.PublicTypes.{step_value}
use Rattle.ed_syntax.specs.PublicScript.{script_value}
use Rattle.ed_rules.specs.Texts.{with_texts}
use Rattle.ed_rules.specs.Matched.{sought_by_step}
use Rattle.hints.specs.Widest.{searched}
use Rattle.hints.proofs.searched.searched.Given as goal

abbrev pub invariant-commands : goal.invariant-commands
invariant-commands l =
    searched (script_value l.script) ≡ with_texts (flat_map sought_by_step (map step_value (drop l.command-index l.command-items))) l.patterns
