-- The copies come after the changes, and are turned.
use Rattle.std.proofs.Common.{◌≡◌, ◌∙◌, ap, arith, drop, length, take, sym}
use Rattle.std.proofs.lemmas.List.{drop_at, take_at}
use Rattle.ed_base.specs.Buffer.{texts}
use Rattle.ed_commands.specs.Earlier.{rewound}
use Rattle.ed_commands.proofs.editor.undoing.rewind_copies.Goals as goal

pub rewind_from-requires : goal.rewind_from-requires
rewind_from-requires g c = omega (arith, c.len-count.ensures, c.args.changes.now.ok.0, c.repeat_changes.ensures.no_fewer)

pub returns-clause-texts : goal.returns-clause-texts
returns-clause-texts g c =
    let old = c.args.changes.now.items in
    let count = c.len-count.result in
    let long : length old ≡ count = omega (arith, c.len-count.ensures, c.args.changes.now.ok.0) in
    c.in_ok-rewind_from.ensures.texts
    ∙ ap (λ t. rewound t (texts (g.S.LineStore.lines c.args.store.now)))
    (ap (drop count) c.in_ok-repeat_changes.ensures.repeated ∙ drop_at old (drop c.args.since old) count long)

pub returns-clause-again : goal.returns-clause-again
returns-clause-again g c =
    let long : length c.args.changes.now.items ≡ c.len-count.result = omega (arith, c.len-count.ensures, c.args.changes.now.ok.0) in
    ap (λ n. rewound (drop n c.rewind_from.new.changes.items) (texts (g.S.LineStore.lines c.rewind_from.new.store))) long
    ∙ c.in_ok-rewind_from.ensures.again

pub returns-clause-earlier : goal.returns-clause-earlier
returns-clause-earlier g c =
    let old = c.args.changes.now.items in
    let count = c.len-count.result in
    let long : length old ≡ count = omega (arith, c.len-count.ensures, c.args.changes.now.ok.0) in
    ap (λ n. take n c.rewind_from.new.changes.items) long
    ∙ c.in_ok-rewind_from.ensures.earlier
    ∙ ap (take count) c.in_ok-repeat_changes.ensures.repeated
    ∙ take_at old (drop c.args.since old) count long
