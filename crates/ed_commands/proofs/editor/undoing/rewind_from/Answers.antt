-- One more change is taken back, and the one that would do it again comes before those of later ones.
use Rattle.std.proofs.Common.{◌≡◌, ◌<◌, ◌≤◌, ◌+◌, ◌-◌, ◌∷◌, ◌∙◌, [], ap, sym, arith, length, take, drop, get_or, set, reverse}
use Rattle.std.proofs.lemmas.List.{drop-set, drop_at, get_or-take, length-append, length-drop, length-reverse, length-set, length-take-le, reverse-append, take-set, take_at}
use Rattle.ed_base.specs.Buffer.{texts}
use Rattle.ed_commands.specs.Earlier.{rewound, texts_before}
use Rattle.ed_commands.proofs.Kept.{rewound-more}
use Rattle.ed_commands.proofs.Undoing.{earlier-kept, reversed-rest, rewound-step}
use Rattle.ed_commands.proofs.editor.undoing.rewind_from.Goals as goal

pub loop-i-preserved : goal.loop-i-preserved
loop-i-preserved g c =
    let lines = g.S.LineStore.lines in
    let first = texts (lines c.args.store.now) in
    let before = texts (lines c.loop-i.store) in
    let after = texts (lines c.take_back.new.store) in
    let old = c.args.changes.now.items in
    let changes = c.loop-i.changes.items in
    let i = c.loop-i.i - 1 in
    let change = c.index_mut.result.now in
    let again = c.take_back.new.change in
    let from = c.loop-i.invariant in
    let at : i + 1 ≡ c.loop-i.i = omega arith in
    let some : i < length old = omega (arith, from.most) in
    let inside : i < length changes = omega (arith, from.count, from.most) in
    let front : take (i + 1) changes ≡ take (i + 1) old = ap (λ n. take n changes) at ∙ from.earlier ∙ ap (λ n. take n old) (sym at) in
    let same : change ≡ get_or old i change = c.index_mut.ensures.value
    ∙ sym (get_or-take (i + 1) changes i change (omega arith)) ∙ ap (λ t. get_or t i change) front ∙ get_or-take (i + 1) old i change (omega arith) in
    record {
      back = c.in_ok-take_back.ensures.texts
          ∙ ap (texts_before change) (from.back ∙ ap (λ n. rewound (drop n old) first) (sym at))
          ∙ ap (λ k. texts_before k (rewound (drop (i + 1) old) first)) same
          ∙ sym (rewound-step old i change first some);
      again = ap (λ t. rewound (reverse t) after) (drop-set changes i again inside)
          ∙ ap (λ t. rewound t after) (reverse-append (again ∷ []) (drop (i + 1) changes))
          ∙ rewound-more (reverse (drop (i + 1) changes)) again after
          ∙ ap (rewound (reverse (drop (i + 1) changes))) c.in_ok-take_back.ensures.again
          ∙ ap (λ n. rewound (reverse (drop n changes)) before) at
          ∙ from.again;
      earlier = take-set changes i again ∙ earlier-kept i changes old front;
      least = omega arith;
      most = omega (arith, from.most);
      count = length-set changes i again ∙ from.count;
    }

pub returns-clause-texts : goal.returns-clause-texts
returns-clause-texts g c =
    let first = texts (g.S.LineStore.lines c.args.store.now) in
    let at : c.loop-i.i ≡ c.args.since = omega (arith, c.loop-i.invariant.least) in
    c.loop-i.invariant.back ∙ ap (λ n. rewound (drop n c.args.changes.now.items) first) at

pub returns-clause-again : goal.returns-clause-again
returns-clause-again g c =
    let after = texts (g.S.LineStore.lines c.loop-i.store) in
    let changes = c.loop-i.changes.items in
    let since = c.args.since in
    let from = c.loop-i.invariant in
    let at : c.loop-i.i ≡ since = omega (arith, from.least) in
    let within : since ≤ length changes = omega (arith, from.count, c.requires.since) in
    ap (λ t. rewound (drop since t) after)
    (reversed-rest since c.len-count.result c.loop-i.changes.len c.deref_mut.result.now changes c.reverse.new.self c.deref_mut.ensures.value within
    (omega (arith, from.count, c.len-count.ensures, c.args.changes.now.ok.0)) (omega (arith, c.loop-i.changes.ok.0)) c.reverse.ensures.after)
    ∙ ap (λ t. rewound t after) (drop_at (take since changes) (reverse (drop since changes)) since (length-take-le since changes within))
    ∙ ap (λ n. rewound (reverse (drop n changes)) after) (sym at)
    ∙ from.again

pub returns-clause-earlier : goal.returns-clause-earlier
returns-clause-earlier g c =
    let changes = c.loop-i.changes.items in
    let since = c.args.since in
    let from = c.loop-i.invariant in
    let at : c.loop-i.i ≡ since = omega (arith, from.least) in
    let within : since ≤ length changes = omega (arith, from.count, c.requires.since) in
    ap (take since)
    (reversed-rest since c.len-count.result c.loop-i.changes.len c.deref_mut.result.now changes c.reverse.new.self c.deref_mut.ensures.value within
    (omega (arith, from.count, c.len-count.ensures, c.args.changes.now.ok.0)) (omega (arith, c.loop-i.changes.ok.0)) c.reverse.ensures.after)
    ∙ take_at (take since changes) (reverse (drop since changes)) since (length-take-le since changes within)
    ∙ ap (λ n. take n changes) (sym at)
    ∙ from.earlier
    ∙ ap (λ n. take n c.args.changes.now.items) at

pub returns-clause-count : goal.returns-clause-count
returns-clause-count g c =
    let changes = c.loop-i.changes.items in
    let since = c.args.since in
    let from = c.loop-i.invariant in
    let within : since ≤ length changes = omega (arith, from.count, c.requires.since) in
    ap length
    (reversed-rest since c.len-count.result c.loop-i.changes.len c.deref_mut.result.now changes c.reverse.new.self c.deref_mut.ensures.value within
    (omega (arith, from.count, c.len-count.ensures, c.args.changes.now.ok.0)) (omega (arith, c.loop-i.changes.ok.0)) c.reverse.ensures.after)
    ∙ length-append (take since changes) (reverse (drop since changes))
    ∙ omega (arith, from.count, length-take-le since changes within, length-reverse (drop since changes), length-drop since changes)
