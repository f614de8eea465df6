use Rattle.std.proofs.Common.{◌≡◌, [], refl, ◌∙◌, ap, sym, arith}
use Rattle.bre_parse.specs.Tree.{Tree}
use Rattle.bre_parse.specs.Bre.{bre_tree}
use Rattle.ed_base.specs.Lines.{lines_of}
use Rattle.landmarks.specs.Looking.{finds}
use Rattle.landmarks.proofs.Lines.{rest-next, rest-first, some-left, none-more, passes-here}
use Rattle.landmarks.proofs.looking.first_found.Goals as goal

pub loop-number-preserved : goal.loop-number-preserved
loop-number-preserved c =
    let lines = lines_of c.args.file.now in
    let here = sym c.in-Some.ensures.first ∙ c.loop-number.invariant.left in
    let fails = ap (λ (tree : Tree). finds tree c.in-Some.line.now) (sym c.loop-number.invariant.searches) ∙ sym c.in_ok-matches-in-Some.ensures.value ∙ c.if-branch.false in
    record {
      left = rest-next lines (lines_of c.in-Some.rest.now) c.in-Some.line.now c.loop-number.number here;
      searches = c.matches.ensures.pattern ∙ c.loop-number.invariant.searches;
      none = none-more (finds (bre_tree c.args.pattern.now)) lines c.args.after c.loop-number.number c.in-Some.line.now c.loop-number.invariant.none
          (rest-first lines (lines_of c.in-Some.rest.now) c.in-Some.line.now c.loop-number.number here) fails;
    }

pub returns-then-branch : goal.returns-then-branch
returns-then-branch c =
    let lines = lines_of c.args.file.now in
    let here = sym c.in-Some.ensures.first ∙ c.loop-number.invariant.left in
    let found = ap (λ (tree : Tree). finds tree c.in-Some.line.now) (sym c.loop-number.invariant.searches) ∙ sym c.in_ok-matches-in-Some.ensures.value ∙ c.if-branch.true in
    record {
      value = passes-here (finds (bre_tree c.args.pattern.now)) lines c.args.after c.args.through c.loop-number.number c.in-Some.line.now c.loop-number.invariant.none
          (omega arith) c.loop-number-test.true (rest-first lines (lines_of c.in-Some.rest.now) c.in-Some.line.now c.loop-number.number here) found;
    }

-- the lines go on up to the last one that is looked at
pub returns-in-None : goal.returns-in-None
returns-in-None c =
    let none : c.loop-number.left.now ≡ [] = c.in-None.ensures.ended.0 refl in
    let over = some-left (lines_of c.args.file.now) c.loop-number.number (sym (ap lines_of none) ∙ c.loop-number.invariant.left) in
    record { value = absurd (omega (arith, over, c.requires.within, c.loop-number-test.true)) }

pub returns : goal.returns
returns c = record { value = λ number above below. c.loop-number.invariant.none number above (omega (arith, below, c.loop-number-test.false)) }
