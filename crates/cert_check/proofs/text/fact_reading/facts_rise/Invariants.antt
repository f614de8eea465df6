use Rattle.std.proofs.Common.{◌≡◌, ◌-◌, drop}
use Rattle.cert_check.specs.text.FactsText.{is_rising_by, fact_order}
use Rattle.cert_check.proofs.text.fact_reading.facts_rise.Given as goal

-- those before this one rise
abbrev pub invariant-loop-next : goal.invariant-loop-next
invariant-loop-next l = is_rising_by fact_order l.facts ≡ is_rising_by fact_order (drop (l.next - 1) l.facts)
