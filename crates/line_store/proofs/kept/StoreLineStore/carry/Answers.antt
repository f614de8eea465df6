-- A block that is carried changes places with what stands between.
use Rattle.std.proofs.Common.{◌≡◌, ◌+◌, ◌-◌, ◌∙◌, ap, sym, subst, length, arith, OnOk}
use Rattle.ed_base.specs.Parts.{carried}
use Rattle.line_store.specs.Kept.{lines_of}
use Rattle.line_store.specs.Swaps.{swapped}
use Rattle.line_store.proofs.Lettered.{length-lettered}
use Rattle.line_store.proofs.Swapped.{carried-up, carried-down}
use Rattle.line_store.proofs.kept.StoreLineStore.carry.Goals as goal

pub swap_blocks-requires-clause-last : goal.swap_blocks-requires-clause-last
swap_blocks-requires-clause-last g c =
    let now = c.next_flagged.new.self in
    omega (arith, c.requires.last, ap length c.next_flagged.ensures.unchanged, length-lettered now.marks 0 now.items)

pub returns-then-place-from-clause-carried : goal.returns-then-place-from-clause-carried
returns-then-place-from-clause-carried g c =
    let same : swapped c.args.place c.args.from c.args.to (lines_of c.next_flagged.new.self) ≡ carried c.args.from c.args.to c.args.place (lines_of c.args.self.now) =
    ap (swapped c.args.place c.args.from c.args.to) c.next_flagged.ensures.unchanged
    ∙ sym (carried-up c.args.from c.args.to c.args.place (lines_of c.args.self.now) (omega arith) c.requires.order c.requires.last) in
    subst (λ t. OnOk c.swap_blocks.result (lines_of c.swap_blocks.new.self ≡ t)) same c.swap_blocks.ensures.swapped

pub overflow_add-place : goal.overflow_add-place
overflow_add-place g c = omega (arith, c.requires.place, c.len.ensures.value)

pub swap_blocks-requires-2-clause-last : goal.swap_blocks-requires-2-clause-last
swap_blocks-requires-2-clause-last g c =
    let now = c.next_flagged.new.self in
    omega (arith, c.requires.place, ap length c.next_flagged.ensures.unchanged, length-lettered now.marks 0 now.items)

pub returns-clause-carried : goal.returns-clause-carried
returns-clause-carried g c =
    let high = c.args.place + (c.args.to - c.args.from) in
    let same : swapped c.args.from c.args.to high (lines_of c.next_flagged.new.self) ≡ carried c.args.from c.args.to c.args.place (lines_of c.args.self.now) =
    ap (swapped c.args.from c.args.to high) c.next_flagged.ensures.unchanged
    ∙ sym (carried-down c.args.from c.args.to c.args.place high (lines_of c.args.self.now) c.requires.order (omega (arith, c.requires.order)) c.requires.place (omega arith)) in
    subst (λ t. OnOk c.swap_blocks-2.result (lines_of c.swap_blocks-2.new.self ≡ t)) same c.swap_blocks-2.ensures.swapped
