use Rattle.std.proofs.Common.{Bool, ◌&&◌, ◌||◌, get_or, refl, ap, ◌∙◌}
use Rattle.std.specs.List.{list_any}
use Rattle.remarks.specs.declared.slip.Slip.{Slip}
use Rattle.remarks.specs.declared.slip.Slip.TheVariants as slip
use Rattle.remarks.specs.Patterns.{pattern_shows}
use Rattle.remarks.specs.Told.{same, tells}
use Rattle.remarks.proofs.OrLemmas.{told_more}
use Rattle.remarks.proofs.TellLemmas.{adds_then}
use Rattle.remarks.proofs.shown.tell_each.Goals as goal

pub loop-slip-preserved : goal.loop-slip-preserved
loop-slip-preserved c = record {
  told = λ kind.
      let one : Slip = get_or c.args.slips.now c.loop-slip.slip-index slip.BracketOfBytes in
      let shown : Slip → Bool = λ s. same kind s && pattern_shows s c.args.spot.is_high c.args.parts.now in
      let old : Bool = tells kind c.loop-slip.found.items in
      told_more (list_any shown) (list_any shown) (shown one) c.args.slips.now c.loop-slip.slip-index one slip.BracketOfBytes old
      (tells kind c.tell_if.new.found.items) (λ rest. refl) c.loop-slip-test.true refl
      (c.in_ok-tell_if.ensures.told kind ∙ ap (λ b. (same kind one && b) || old) c.pattern_shows-is_shown.ensures.value)
      ∙ c.loop-slip.invariant.told kind;
  appended = adds_then c.loop-slip.invariant.appended c.in_ok-tell_if.ensures.appended;
}
