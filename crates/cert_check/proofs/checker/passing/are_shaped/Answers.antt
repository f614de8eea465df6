use Rattle.std.proofs.Common.{arith, rules, refl, sym, ◌∙◌, ◌<◌, length}
use Rattle.cert_check.proofs.verdicts.Counting.{counted-bounded}
use Rattle.cert_check.proofs.verdicts.Judging.{shape-on, shape-off, shape-over, shape-size}
use Rattle.cert_check.proofs.checker.passing.are_shaped.Goals as goal

pub returns-then-notes-number : goal.returns-then-notes-number
returns-then-notes-number c = record { value = sym (shape-size c.args.commands.now c.args.notes.now c.args.number c.requires.counted c.if-notes-number.true) }

pub loop-index-init : goal.loop-index-init
loop-index-init c = refl

pub offset_bounds-commands-index : goal.offset_bounds-commands-index
offset_bounds-commands-index c =
    let within : c.loop-index.index < length c.args.commands.now = omega (arith, counted-bounded c.args.commands.now, c.requires.counted, c.if-notes-number.false) in
    search rules

pub bounds-commands-index : goal.bounds-commands-index
bounds-commands-index c = omega (arith, counted-bounded c.args.commands.now, c.requires.counted, c.if-notes-number.false)

pub loop-index-preserved : goal.loop-index-preserved
loop-index-preserved c =
    c.loop-index.invariant
    ∙ shape-on c.args.commands.now c.args.notes.now c.loop-index.index c.index-commands-index.result c.index-notes-index.result (omega arith)
    (c.if-notes-number.false ∙ c.requires.counted) c.index-commands-index.is c.index-notes-index.is (sym c.fits.ensures.value ∙ c.if-not-fits.false)

pub returns-then-not-fits : goal.returns-then-not-fits
returns-then-not-fits c = record {
  value = sym
      (c.loop-index.invariant
      ∙ shape-off c.args.commands.now c.args.notes.now c.loop-index.index c.index-commands-index.result c.index-notes-index.result (omega arith)
      (c.if-notes-number.false ∙ c.requires.counted) c.index-commands-index.is c.index-notes-index.is (sym c.fits.ensures.value ∙ c.if-not-fits.true));
}

pub returns : goal.returns
returns c = record {
  value = sym
      (c.loop-index.invariant
      ∙ shape-over c.args.commands.now c.args.notes.now c.loop-index.index (omega arith) (c.if-notes-number.false ∙ c.requires.counted));
}
