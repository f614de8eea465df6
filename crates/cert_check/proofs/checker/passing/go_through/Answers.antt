use Rattle.std.proofs.Common.{arith, rules, refl, sym, ◌∙◌, ◌<◌, length}
use Rattle.cert_check.proofs.verdicts.Counting.{counted-bounded}
use Rattle.cert_check.proofs.verdicts.Judging.{go-on, stop-here, gone-through, shape-on, shape-fits, noted-length}
use Rattle.cert_check.proofs.checker.passing.go_through.Goals as goal

pub loop-index-init : goal.loop-index-init
loop-index-init c = record { shape = c.requires.shape; checks = λ end. refl }

pub offset_bounds-commands-index : goal.offset_bounds-commands-index
offset_bounds-commands-index c =
    let within : c.loop-index.index < length c.args.commands.now = omega (arith, counted-bounded c.args.commands.now, noted-length c.args.commands.now c.args.notes.now c.requires.shape) in
    search rules

pub bounds-commands-index : goal.bounds-commands-index
bounds-commands-index c = omega (arith, counted-bounded c.args.commands.now, noted-length c.args.commands.now c.args.notes.now c.requires.shape)

pub pass-requires : goal.pass-requires
pass-requires c = record {
  shape = shape-fits c.args.commands.now c.args.notes.now c.loop-index.index c.index-commands-index.result c.index-notes-index.result (omega arith) c.index-commands-index.is c.index-notes-index.is
      c.requires.shape c.loop-index.invariant.shape;
}

pub loop-index-preserved : goal.loop-index-preserved
loop-index-preserved c =
    let size = noted-length c.args.commands.now c.args.notes.now c.requires.shape in
    let goes = rw c.in-None.is at c.in_ok-pass.ensures.value in
    let fit = shape-fits c.args.commands.now c.args.notes.now c.loop-index.index c.index-commands-index.result c.index-notes-index.result (omega arith) c.index-commands-index.is c.index-notes-index.is
    c.requires.shape c.loop-index.invariant.shape in
    record {
      shape =
          sym (shape-on c.args.commands.now c.args.notes.now c.loop-index.index c.index-commands-index.result c.index-notes-index.result (omega arith) size c.index-commands-index.is c.index-notes-index.is fit)
          ∙ c.loop-index.invariant.shape;
      checks = λ end.
          c.loop-index.invariant.checks end
          ∙ go-on c.args.sight.now c.args.writes.now end c.args.commands.now c.args.notes.now c.loop-index.index c.index-commands-index.result c.index-notes-index.result c.loop-index.coming c.pass.new.coming
          (omega arith) size c.index-commands-index.is c.index-notes-index.is goes;
    }

pub returns-in-Some : goal.returns-in-Some
returns-in-Some c =
    let size = noted-length c.args.commands.now c.args.notes.now c.requires.shape in
    let goes = rw c.in-Some.is at c.in_ok-pass.ensures.value in
    record {
      value = λ end.
          c.loop-index.invariant.checks end
          ∙ stop-here c.args.sight.now c.args.writes.now end c.args.commands.now c.args.notes.now c.loop-index.index c.index-commands-index.result c.index-notes-index.result c.loop-index.coming c.pass.new.coming c.in-Some.place
          (omega arith) size c.index-commands-index.is c.index-notes-index.is goes;
    }

pub returns : goal.returns
returns c = record {
  value = λ end.
      c.loop-index.invariant.checks end
      ∙ gone-through c.args.sight.now c.args.writes.now end c.args.commands.now c.args.notes.now c.loop-index.index c.loop-index.coming (omega arith)
      (noted-length c.args.commands.now c.args.notes.now c.requires.shape);
}
