use Rattle.std.proofs.Common.{sym}
use Rattle.cert_check.proofs.text.fact_reading.name_in.Goals as goal

pub returns-then-has_name : goal.returns-then-has_name
returns-then-has_name c = record { exact = (c.in_ok-name.ensures.byte, sym c.if-has_name.ensures.value) }
