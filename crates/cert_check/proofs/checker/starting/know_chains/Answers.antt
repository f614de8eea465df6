use Rattle.std.proofs.Common.{true, false, sym, arith}
use Rattle.ed_syntax.specs.PublicScript.{script_value}
use Rattle.cert_check.specs.checker.Beginning.{landmarks_of}
use Rattle.cert_check.proofs.verdicts.Lettering.{too-few, enough, knows-so, known-just-so}
use Rattle.cert_check.proofs.checker.starting.know_chains.Goals as goal

pub returns-then-len-count-clause-value : goal.returns-then-len-count-clause-value
returns-then-len-count-clause-value c =
    let size = c.len.ensures in
    let short = c.if-len-count.true in
    sym (too-few (script_value c.args.script.now) (landmarks_of c.args.chains.now) c.in_ok-letters.letters.items
    c.landmarks_in-count.result c.landmarks_in-count.ensures.value c.in_ok-letters.ensures.value (omega arith))

pub returns-then-len-count-clause-few : goal.returns-then-len-count-clause-few
returns-then-len-count-clause-few c =
    let size = c.len.ensures in
    let short = c.if-len-count.true in
    known-just-so (script_value c.args.script.now) (landmarks_of c.args.chains.now) false
    (sym (too-few (script_value c.args.script.now) (landmarks_of c.args.chains.now) c.in_ok-letters.letters.items
    c.landmarks_in-count.result c.landmarks_in-count.ensures.value c.in_ok-letters.ensures.value (omega arith)))

pub returns-clause-value : goal.returns-clause-value
returns-clause-value c =
    let size = c.len.ensures in
    let long = c.if-len-count.false in
    sym (enough (script_value c.args.script.now) (landmarks_of c.args.chains.now) c.in_ok-letters.letters.items
    c.landmarks_in-count.result c.landmarks_in-count.ensures.value c.in_ok-letters.ensures.value (omega arith)).0

pub returns-clause-knows : goal.returns-clause-knows
returns-clause-knows c =
    let size = c.len.ensures in
    let long = c.if-len-count.false in
    λ _. knows-so (script_value c.args.script.now) (landmarks_of c.args.chains.now) c.in_ok-letters.letters.items c.as_slice.result.now
    c.landmarks_in-count.result c.args.state.now c.know.new.state c.landmarks_in-count.ensures.value c.in_ok-letters.ensures.value
    (omega arith) c.as_slice.ensures.value c.in_ok-know.ensures.value

pub returns-clause-few : goal.returns-clause-few
returns-clause-few c =
    let size = c.len.ensures in
    let long = c.if-len-count.false in
    known-just-so (script_value c.args.script.now) (landmarks_of c.args.chains.now) true
    (sym (enough (script_value c.args.script.now) (landmarks_of c.args.chains.now) c.in_ok-letters.letters.items
    c.landmarks_in-count.result c.landmarks_in-count.ensures.value c.in_ok-letters.ensures.value (omega arith)).0)
