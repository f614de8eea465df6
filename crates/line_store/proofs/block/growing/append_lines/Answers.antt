-- The texts that follow are those of the lines that were left.
use Rattle.std.proofs.Common.{◌++◌, ◌∙◌, ap, arith, drop, length, sym}
use Rattle.std.proofs.lemmas.List.{drop-map, length-drop, length-map, map-append}
use Rattle.ed_base.specs.Buffer.{Line, texts}
use Rattle.line_store.proofs.block.growing.append_lines.Goals as goal

pub drop_front-requires : goal.drop_front-requires
drop_front-requires c =
    omega (arith, c.requires.enough, ap length c.in_ok-list.ensures.value, length-map c.in_ok-list.list.items (λ (l : Line). l.bytes))

pub push_all-requires : goal.push_all-requires
push_all-requires c =
    omega (
      arith,
      ap length c.drop_front.ensures.left,
      length-drop c.args.passed c.in_ok-list.list.items,
      c.in-Ok.ensures.ok,
      c.reserve.new.self.ok.0,
      ap length c.as_slice.ensures.value,
    )

pub returns-in-Ok-clause-appended : goal.returns-in-Ok-clause-appended
returns-in-Ok-clause-appended c =
    let own = c.args.lines.now.items in
    let list = c.in_ok-list.list.items in
    let passed = c.args.passed in
    ap texts (c.push_all.ensures.pushed ∙ ap (λ t. t ++ c.drop_front.new.lines.items) c.reserve.ensures.items)
    ∙ ap (λ t. texts (own ++ t)) c.drop_front.ensures.left
    ∙ map-append (λ (l : Line). l.bytes) own (drop passed list)
    ∙ ap (λ t. texts own ++ t) (sym (drop-map (λ (l : Line). l.bytes) passed list) ∙ ap (drop passed) c.in_ok-list.ensures.value)
