-- The new lines came in after the others, which are the same.
use Rattle.std.proofs.Common.{◌≡◌, ◌<◌, ◌+◌, ◌∙◌, [], ap, sym, arith, length, map, get_or, remove}
use Rattle.ed_base.specs.Buffer.{plain_line, texts}
use Rattle.ed_base.specs.Parts.{block, exchanged, inserted}
use Rattle.line_store.proofs.Taken.{block-before, length-entered, plain-bare, removed-one, taken-before, texts-plain}
use Rattle.line_store.proofs.Written.{block-one}
use Rattle.line_store.proofs.blocks.exchange_each.Goals as goal

pub returns-then-to-from-eq1-2-clause-taken : goal.returns-then-to-from-eq1-2-clause-taken
returns-then-to-from-eq1-2-clause-taken g c =
    let old = g.L.BareLines.items c.args.lines.now in
    let from = c.args.from in
    let to = c.args.to in
    let new = map plain_line c.args.new in
    let mid = inserted to new old in
    let line = c.remove.result in
    let put = c.in_ok-put_lines.ensures.put in
    let one : to ≡ from + 1 = omega arith in
    let within : from < length mid = omega (arith, length-entered to new old c.requires.last, c.requires.last) in
    c.of_bare.ensures.value
    ∙ sym (ap texts (block-one from mid line within (c.remove.ensures.value ∙ ap (λ t. get_or t from line) put)))
    ∙ ap (λ n. texts (block from n mid)) (sym one)
    ∙ ap texts (block-before from to new old c.requires.last)

pub returns-then-to-from-eq1-2-clause-put : goal.returns-then-to-from-eq1-2-clause-put
returns-then-to-from-eq1-2-clause-put g c =
    let old = g.L.BareLines.items c.args.lines.now in
    let from = c.args.from in
    let to = c.args.to in
    let new = map plain_line c.args.new in
    record {
      lines = new;
      same = texts-plain c.args.new;
      bare = plain-bare c.args.new;
      put = c.remove.ensures.removed
          ∙ ap (λ t. remove t from) c.in_ok-put_lines.ensures.put
          ∙ removed-one from to (inserted to new old) (omega arith)
          ∙ taken-before from to new old c.requires.order c.requires.last;
    }

pub returns-clause-taken : goal.returns-clause-taken
returns-clause-taken g c =
    let old = g.L.BareLines.items c.args.lines.now in
    let from = c.args.from in
    let to = c.args.to in
    c.of_lines.ensures.value
    ∙ c.take_each.ensures.taken
    ∙ ap (λ t. texts (block from to t)) c.in_ok-put_lines.ensures.put
    ∙ ap texts (block-before from to (map plain_line c.args.new) old c.requires.last)

pub returns-clause-put : goal.returns-clause-put
returns-clause-put g c =
    let old = g.L.BareLines.items c.args.lines.now in
    let from = c.args.from in
    let to = c.args.to in
    let new = map plain_line c.args.new in
    record {
      lines = new;
      same = texts-plain c.args.new;
      bare = plain-bare c.args.new;
      put = c.take_each.ensures.left
          ∙ ap (exchanged from to []) c.in_ok-put_lines.ensures.put
          ∙ taken-before from to new old c.requires.order c.requires.last;
    }
