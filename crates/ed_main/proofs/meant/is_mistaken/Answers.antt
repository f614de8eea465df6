use Rattle.std.proofs.Common.{sym, ap, ◌∙◌}
use Rattle.std.specs.Option.{option_copied}
use Rattle.ed_main.specs.Meant as meaning
use Rattle.ed_main.proofs.meant.is_mistaken.Goals as goal

pub returns-then-is_empty-clause-sound : goal.returns-then-is_empty-clause-sound
returns-then-is_empty-clause-sound g c =
    λ found. meaning.mistaken _ (sym c.judged_file.ensures.value ∙ ap option_copied c.in-Some.is) (c.may_be_meant.ensures.sound found)
