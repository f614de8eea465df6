use Rattle.std.proofs.Common.{ap, ◌∙◌}
use Rattle.std.proofs.Math.Logic.{∥∥₁_elim}
use mathlib.Core.Bool.{Bool-set}
use Rattle.std.proofs.Props.{props}
use Rattle.bre_parse.specs.Tree.{sequence_of}
use Rattle.bre_parse.specs.WellFormed.{repeats_in_order}
use Rattle.bre_parse.specs.Bre.{bre_tree}
use Rattle.bre_parse.proofs.WellRead.{pattern_in_order}
use Rattle.bre_parse.proofs.SpelledItems.{pattern_deep}
use Rattle.bre_parse.proofs.Bre.items.Goals as goal

pub returns-clause-in_order : goal.returns-clause-in_order
returns-clause-in_order c =
    let self = c.args.self.now in
    ap (λ items. repeats_in_order (sequence_of items)) c.as_slice.ensures.value ∙ ∥∥₁_elim self.read (Bool-set _ _) (λ found. pattern_in_order found.0 (bre_tree self) found.1)

pub returns-clause-depth : goal.returns-clause-depth
returns-clause-depth c = let self = c.args.self.now in ∥∥₁_elim self.read (search props) (λ found. pattern_deep found.0 (bre_tree self) found.1)
