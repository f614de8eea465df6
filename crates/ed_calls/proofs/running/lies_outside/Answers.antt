use Rattle.std.proofs.Common.{refl}
use Rattle.cert_check.specs.Certificates.{certificate_value}
use Rattle.ed_calls.specs.RunOver.{lines_told}
use Rattle.ed_calls.proofs.StatedPatterns.{inside_where_placed, outside_by_pattern, outside_by_size, outside_where_missed}
use Rattle.ed_calls.proofs.running.lies_outside.Goals as goal

pub returns-then-has_other_size-clause-outside : goal.returns-then-has_other_size-clause-outside
returns-then-has_other_size-clause-outside c = λ _. outside_by_size (certificate_value c.args.certificate.now) (lines_told c.args.start.now) (c.if-has_other_size.ensures.other refl)

pub returns-in-Some-clause-outside : goal.returns-in-Some-clause-outside
returns-in-Some-clause-outside c =
    λ _. outside_by_pattern (certificate_value c.args.certificate.now) (lines_told c.args.start.now) c.in-Some.pattern.now (rw c.in-Some.is at c.in_ok-found.ensures.value)

pub returns-in-None-clause-outside : goal.returns-in-None-clause-outside
returns-in-None-clause-outside c =
    outside_where_missed (certificate_value c.args.certificate.now) (lines_told c.args.start.now) c.misses_landmark.result c.misses_landmark.ensures.missed

pub returns-in-None-clause-inside : goal.returns-in-None-clause-inside
returns-in-None-clause-inside c =
    inside_where_placed (certificate_value c.args.certificate.now) (lines_told c.args.start.now) c.misses_landmark.result
    (c.if-has_other_size.ensures.within refl) (rw c.in-None.is at c.in_ok-found.ensures.value) c.misses_landmark.ensures.placed
