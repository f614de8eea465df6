use Rattle.std.proofs.Common.{get_or, ◌∙◌, arith, rules}
use Rattle.ed_syntax.specs.reading.ReadParameters.{all_parts}
use Rattle.ed_syntax.proofs.reader.Fronts.{after_first, first_and_others}
use Rattle.ed_syntax.proofs.reader.PartsSteps as step
use Rattle.ed_syntax.proofs.substitution.parts.Goals as goal

pub parts-init : goal.parts-init
parts-init c = record {
  left = step.parts_begin c.args.delimiter c.args.bytes.now c.args.later.now.lines c.new-replacement.result c.new-replacement.ensures.value;
  number = search rules;
  later = omega arith;
}

pub parts-preserved : goal.parts-preserved
parts-preserved c =
    let left = c.parts.left.now in
    let found = c.in-Some in
    record {
      left = step.part_next c.args.delimiter (get_or left 0 0) left (after_first left) c.parts.later.lines c.parts.replacement
          (all_parts c.args.delimiter c.args.bytes.now c.args.later.now.lines) (first_and_others left c.in-len1-up.len_at_least) c.if-byte-delimiter.false
          found.part found.rest.now c.part_at.new.later.lines c.push.new.self found.ensures.value found.ensures.shorter c.in_ok-push-in-Some.ensures.appended c.parts.invariant.left;
      number = c.part_at.ensures.number ∙ c.parts.invariant.number;
      later = omega (arith, c.part_at.ensures.later, c.parts.invariant.later);
    }
