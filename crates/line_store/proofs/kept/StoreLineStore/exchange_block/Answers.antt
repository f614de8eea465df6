-- The lines have come in without letters, and the letters of those that went out mark no line.
use Rattle.std.proofs.Common.{◌≡◌, ◌+◌, ◌-◌, ◌≤◌, ◌∙◌, ap, subst, length, map, arith}
use Rattle.ed_base.specs.Buffer.{plain_line, texts}
use Rattle.ed_base.specs.Parts.{block, exchanged}
use Rattle.line_store.specs.Cut.{all_lines}
use Rattle.line_store.specs.Marks.{AllBelow, lettered}
use Rattle.line_store.specs.Shifts.{places_exchanged}
use Rattle.line_store.specs.Kept.{flag_count, lines_of}
use Rattle.line_store.proofs.Lettered.{length-lettered}
use Rattle.line_store.proofs.Taken.{below-replaced, block-lettered, flags-replaced, length-replaced, lettered-replaced}
use Rattle.line_store.proofs.kept.StoreLineStore.exchange_block.Goals as goal

pub flags_among-flags-requires-clause-last : goal.flags_among-flags-requires-clause-last
flags_among-flags-requires-clause-last g c =
    omega (arith, c.requires.last, length-lettered c.args.self.now.marks 0 c.args.self.now.items)

pub exchange_block-requires-clause-last : goal.exchange_block-requires-clause-last
exchange_block-requires-clause-last g c =
    omega (arith, c.requires.last, length-lettered c.self.inside.marks 0 (all_lines c.self.inside.lines), ap (λ v. length (lines_of v)) c.self.view_is)

pub overflow_sub-entered-2 : goal.overflow_sub-entered-2
overflow_sub-entered-2 g c =
    omega (arith, c.len-count.ensures.value, c.requires.last, length-lettered c.self.inside.marks 0 (all_lines c.self.inside.lines), ap (λ v. length (lines_of v)) c.self.view_is)

pub overflow_sub-entered-3 : goal.overflow_sub-entered-3
overflow_sub-entered-3 g c =
    let lines = all_lines c.self.inside.lines in
    let came = c.in_ok-taken.ensures.put in
    let within : c.args.to ≤ c.len-count.result =
    omega (arith, c.len-count.ensures.value, c.requires.last, length-lettered c.self.inside.marks 0 lines, ap (λ v. length (lines_of v)) c.self.view_is) in
    omega (arith, c.len.ensures.value, ap length came.put, length-replaced c.args.from c.args.to c.len-count.result came.lines lines c.requires.order within c.len-count.ensures.value)

pub exchange_places-requires-clause-last : goal.exchange_places-requires-clause-last
exchange_places-requires-clause-last g c =
    omega (arith, c.len-count.ensures.value, c.requires.last, length-lettered c.self.inside.marks 0 (all_lines c.self.inside.lines), ap (λ v. length (lines_of v)) c.self.view_is)

pub overflow_sub-self : goal.overflow_sub-self
overflow_sub-self g c =
    let lines = all_lines c.self.inside.lines in
    let came = c.in_ok-taken.ensures.put in
    omega (
      arith,
      flags-replaced c.args.from c.args.to came.lines lines c.requires.order came.bare,
      c.self.invariant.2,
      c.flags_among-flags.ensures.value,
      ap (λ v. flag_count (block c.args.from c.args.to v.items)) c.self.view_is,
    )

pub invariant_of-self-2 : goal.invariant_of-self-2
invariant_of-self-2 g c =
    let e = c.self.inside in
    let lines = all_lines e.lines in
    let from = c.args.from in
    let to = c.args.to in
    let count = c.len-count.result in
    let entered = c.len.result - (count - (to - from)) in
    let came = c.in_ok-taken.ensures.put in
    let within : to ≤ count =
    omega (arith, c.len-count.ensures.value, c.requires.last, length-lettered e.marks 0 lines, ap (λ v. length (lines_of v)) c.self.view_is) in
    let many = length-replaced from to count came.lines lines c.requires.order within c.len-count.ensures.value in
    let all : c.len.result ≡ length (exchanged from to came.lines lines) = c.len.ensures.value ∙ ap length came.put in
    rw (c.exchange_places.ensures.value, came.put) (
      subst (λ n. AllBelow n (places_exchanged from to count entered e.marks))
          (let same : count - (to - from) + entered ≡ length (exchanged from to came.lines lines) = omega (arith, all, many) in same)
          (below-replaced from to count entered e.marks c.requires.order within),
      c.place_replaced-self-inside.ensures lines came.lines (omega (arith, c.len-count.ensures.value)) (omega (arith, all, many)) came.bare c.self.invariant.1,
      omega (
        arith,
        flags-replaced from to came.lines lines c.requires.order came.bare,
        c.self.invariant.2,
        c.flags_among-flags.ensures.value,
        ap (λ v. flag_count (block from to v.items)) c.self.view_is,
      ),
    )

pub returns-clause-taken : goal.returns-clause-taken
returns-clause-taken g c =
    c.in_ok-taken.ensures.taken
    ∙ block-lettered c.args.from c.args.to c.self.inside.marks (all_lines c.self.inside.lines)
    ∙ ap (λ v. texts (block c.args.from c.args.to (lines_of v))) c.self.view_is

pub returns-clause-put : goal.returns-clause-put
returns-clause-put g c =
    let e = c.self.inside in
    let lines = all_lines e.lines in
    let from = c.args.from in
    let to = c.args.to in
    let count = c.len-count.result in
    let entered = c.len.result - (count - (to - from)) in
    let came = c.in_ok-taken.ensures.put in
    let within : to ≤ count =
    omega (arith, c.len-count.ensures.value, c.requires.last, length-lettered e.marks 0 lines, ap (λ v. length (lines_of v)) c.self.view_is) in
    let many = length-replaced from to count came.lines lines c.requires.order within c.len-count.ensures.value in
    rw (c.exchange_places.ensures.value, came.put) (
    lettered-replaced from to count entered e.marks came.lines lines c.requires.order within c.len-count.ensures.value
    (omega (arith, c.len.ensures.value, ap length came.put, many)) came.bare
    ∙ ap (λ t. exchanged from to (map plain_line t) (lettered e.marks 0 lines)) came.same
    ∙ ap (λ v. exchanged from to (map plain_line c.args.new) (lines_of v)) c.self.view_is)
