use Rattle.analyser.proofs.PassedOn.{passed-from}
use Rattle.analyser.proofs.judging.first_failure.Goals as goal

pub judgement-requires-clause-passed : goal.judgement-requires-clause-passed
judgement-requires-clause-passed c =
    let begins = c.in_ok-sight.ensures.value in
    passed-from _ _ _ _ _ _ _ begins.1 c.as_slice.ensures.value begins.2 c.in_ok-passage.ensures.value
