use Rattle.std.proofs.Common.{◌∷◌, [], false, sym, ◌∙◌}
use Rattle.bre_match.proofs.Needs.{block_passed}
use Rattle.bre_match.proofs.needed.after_blocks.Goals as goal

pub skipped-preserved : goal.skipped-preserved
skipped-preserved c =
    block_passed false ((c.args.low, c.args.high) ∷ []) c.args.text.now c.skipped.at 16 (sym c.has_in_range.ensures.value ∙ c.if-has_in_range.false) ∙ c.skipped.invariant
