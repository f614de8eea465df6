use Rattle.std.proofs.Common.{◌≡◌, ◌-◌, drop}
use Rattle.cert_check.specs.text.FactsText.{is_rising_by, stretch_order}
use Rattle.cert_check.proofs.text.fact_reading.stretches_rise.Given as goal

-- those before this one rise
abbrev pub invariant-loop-next : goal.invariant-loop-next
invariant-loop-next l = is_rising_by stretch_order l.stretches ≡ is_rising_by stretch_order (drop (l.next - 1) l.stretches)
