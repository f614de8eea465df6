use Rattle.std.proofs.Common.{◌-◌, suc, inl, inr, sym, arith}
use Rattle.bre_match.specs.Runs.{groups_at}
use Rattle.bre_match.proofs.Narrowing.{none_there, one_there, one_weighs}
use Rattle.bre_match.proofs.narrow.only_end.Goals as goal
use Rattle.bre_match.proofs.narrow.only_end.Goals.{then-run-end-via-then-run-end, then-run-end-via-else-run-end+then-end-run}

pub returns-then-size-bytes-clause-value : goal.returns-then-size-bytes-clause-value
returns-then-size-bytes-clause-value c f absent =
    let run = c.args.run.now in
    sym (none_there f run.end run.shorter (suc run.end) (groups_at run) c.requires.room (inr (omega arith)) (λ x ne. absent x (λ i. omega arith)))

pub returns-then-run-end-clause-value : goal.returns-then-run-end-clause-value
returns-then-run-end-clause-value c f absent =
    let run = c.args.run.now in
    sym (none_there f run.end run.shorter (c.args.size - c.args.bytes) (groups_at run) c.requires.room (elim c.then-run-end.branch [ then-run-end-via-then-run-end w ↦ inr (omega arith) | then-run-end-via-else-run-end+then-end-run w ↦ inl (omega arith) ]) (λ x ne. absent x (λ i. ne (omega arith))))

pub returns-clause-value : goal.returns-clause-value
returns-clause-value c f absent =
    let run = c.args.run.now in
    one_there f run.end run.shorter (c.args.size - c.args.bytes) (groups_at run) c.requires.room (omega arith) (omega arith) (λ x ne. absent x (λ i. ne (omega arith)))

pub returns-clause-fewer : goal.returns-clause-fewer
returns-clause-fewer c f =
    let run = c.args.run.now in
    one_weighs f run.end run.shorter (c.args.size - c.args.bytes) (groups_at run) (omega arith) (omega arith)
