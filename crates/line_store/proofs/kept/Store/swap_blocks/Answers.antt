-- The lines have gone with their letters and flags.
use Rattle.std.proofs.Common.{◌≤◌, ◌∙◌, ap, sym, subst, length, arith}
use Rattle.line_store.specs.Cut.{all_lines}
use Rattle.line_store.specs.Marks.{AllBelow}
use Rattle.line_store.specs.Shifts.{places_swapped}
use Rattle.line_store.specs.Kept.{lines_of}
use Rattle.line_store.specs.Swaps.{swapped}
use Rattle.line_store.proofs.Swapped.{length-swapped}
use Rattle.line_store.proofs.SwappedMarks.{lettered-swapped, places_swapped-below, flags-swapped}
use Rattle.line_store.proofs.kept.Store.swap_blocks.Goals as goal

pub invariant_of-self-2 : goal.invariant_of-self-2
invariant_of-self-2 g c =
    let e = c.self.inside in
    let lines = all_lines e.lines in
    let low = c.args.low in
    let middle = c.args.middle in
    let high = c.args.high in
    let h = c.requires.first in
    let k = c.requires.second in
    let within : high ≤ length lines = omega (arith, c.requires.last, ap (λ v. length v.items) c.self.view_is) in
    rw (c.swap_places.ensures.value, c.in_ok-swap_blocks.ensures.swapped) (
      subst (λ n. AllBelow n (places_swapped low middle high e.marks)) (sym (length-swapped low middle high lines h k within))
          (places_swapped-below low middle high (length lines) e.marks h k within c.self.invariant.0),
      c.place_swapped-self-inside.ensures lines within c.self.invariant.1,
      c.self.invariant.2 ∙ sym (flags-swapped low middle high lines h k within),
    )

pub returns-clause-swapped : goal.returns-clause-swapped
returns-clause-swapped g c =
    let e = c.self.inside in
    let lines = all_lines e.lines in
    let low = c.args.low in
    let middle = c.args.middle in
    let high = c.args.high in
    let within : high ≤ length lines = omega (arith, c.requires.last, ap (λ v. length v.items) c.self.view_is) in
    rw (c.swap_places.ensures.value, c.in_ok-swap_blocks.ensures.swapped) (
    lettered-swapped low middle high e.marks lines c.requires.first c.requires.second within
    ∙ ap (λ v. swapped low middle high (lines_of v)) c.self.view_is)
