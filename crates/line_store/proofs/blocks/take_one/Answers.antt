-- One line goes out, and none comes in.
use Rattle.std.proofs.Common.{◌<◌, ◌∙◌, [], ap, refl, sym, arith, length}
use Rattle.std.proofs.lemmas.List.{nil_from_length}
use Rattle.ed_base.specs.Buffer.{texts}
use Rattle.ed_base.specs.Parts.{block}
use Rattle.line_store.proofs.Taken.{removed-one}
use Rattle.line_store.proofs.Written.{block-one}
use Rattle.line_store.proofs.blocks.take_one.Goals as goal

pub returns-clause-taken : goal.returns-clause-taken
returns-clause-taken g c =
    let old = g.L.BareLines.items c.args.lines.now in
    let from = c.args.from in
    let within : from < length old = omega (arith, c.requires.one, c.requires.last) in
    c.of_bare.ensures.value
    ∙ sym (ap texts (block-one from old c.remove.result within c.remove.ensures.value))
    ∙ ap (λ n. texts (block from n old)) (sym c.requires.one)

pub returns-clause-put : goal.returns-clause-put
returns-clause-put g c =
    let old = g.L.BareLines.items c.args.lines.now in
    record {
      lines = [];
      same = sym (nil_from_length c.args.none c.requires.none);
      bare = refl;
      put = c.remove.ensures.removed ∙ removed-one c.args.from c.args.to old c.requires.one;
    }
