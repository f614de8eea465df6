-- Where no global command is open the changes themselves are turned, else their copies after them.
use Rattle.std.proofs.Common.{◌≡◌, ◌∙◌, ap, arith, drop, length, take}
use Rattle.ed_base.specs.Buffer.{texts}
use Rattle.ed_commands.specs.Earlier.{rewound}
use Rattle.ed_commands.proofs.editor.undoing.rewind.Goals as goal

pub returns-in_ok-rewind_from-in-None-clause-within : goal.returns-in_ok-rewind_from-in-None-clause-within
returns-in_ok-rewind_from-in-None-clause-within g c = omega (arith, c.rewind_from.ensures.count, c.requires.since)

pub returns-in_ok-rewind_from-in-None-clause-earlier : goal.returns-in_ok-rewind_from-in-None-clause-earlier
returns-in_ok-rewind_from-in-None-clause-earlier g c = rw c.in-None.is tt

pub returns-in_ok-rewind_copies-in-Some-clause-within : goal.returns-in_ok-rewind_copies-in-Some-clause-within
returns-in_ok-rewind_copies-in-Some-clause-within g c = omega (arith, c.len-count.ensures, c.args.changes.now.ok.0, c.rewind_copies.ensures.no_fewer)

pub returns-in_ok-rewind_copies-in-Some-clause-again : goal.returns-in_ok-rewind_copies-in-Some-clause-again
returns-in_ok-rewind_copies-in-Some-clause-again g c =
    let counted : c.len-count.result ≡ length c.args.changes.now.items = omega (arith, c.len-count.ensures, c.args.changes.now.ok.0) in
    ap (λ n. rewound (drop n c.rewind_copies.new.changes.items) (texts (g.S.LineStore.lines c.rewind_copies.new.store))) counted
    ∙ c.in_ok-rewind_copies-in-Some.ensures.again

pub returns-in_ok-rewind_copies-in-Some-clause-earlier : goal.returns-in_ok-rewind_copies-in-Some-clause-earlier
returns-in_ok-rewind_copies-in-Some-clause-earlier g c =
    let counted : c.len-count.result ≡ length c.args.changes.now.items = omega (arith, c.len-count.ensures, c.args.changes.now.ok.0) in
    rw c.in-Some.is (counted, ap (λ n. take n c.rewind_copies.new.changes.items) counted ∙ c.in_ok-rewind_copies-in-Some.ensures.earlier)
