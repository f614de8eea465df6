use Rattle.std.proofs.Common.{◌∙◌, sym, ap, map, ℕ, List, ◌++◌}
use Rattle.cert_check.specs.text.FactsText.{fact_word, FactIsFormed, fact_order, is_rising_by}
use Rattle.cert_check.proofs.texts.ReadSets.{after-its-key}
use Rattle.cert_check.proofs.texts.ReadFacts.{facts-told, rising-read}
use Rattle.cert_check.proofs.text.fact_reading.known_in.Goals as goal

pub returns-in_default-2 : goal.returns-in_default-2
returns-in_default-2 c = record {
  exact = λ v h e.
      let none = rw c.in_default-2.is at c.in_ok-facts.ensures.exact in
      none v h.each (after-its-key c.args.key.now c.args.line.now c.in-Some.left.now (map fact_word v) c.in-Some.ensures.cases e);
}

pub returns-then-not-facts_rise : goal.returns-then-not-facts_rise
returns-then-not-facts_rise c =
    let read = rw c.in-Some-2.is at c.in_ok-facts.ensures.exact in
    record {
      exact = λ v h e.
          rising-read fact_word (FactIsFormed c.args.marks.now) (facts-told c.args.marks.now) fact_order c.args.key.now c.args.line.now c.in-Some.left.now
          c.in-Some-2.facts.items v c.in-Some.ensures.cases read.0 read.1
          (sym (c.if-not-facts_rise.ensures.value ∙ ap (λ items. is_rising_by fact_order items) c.as_slice.ensures.value)) h.each h.rising e;
    }

pub returns : goal.returns
returns c =
    let read = rw c.in-Some-2.is at c.in_ok-facts.ensures.exact in
    record {
      exact = (
        ap (λ (l : List ℕ). c.args.key.now ++ l) read.0 ∙ sym c.in-Some.ensures.cases,
        record {
          each = read.1;
          rising = sym (c.if-not-facts_rise.ensures.value ∙ ap (λ items. is_rising_by fact_order items) c.as_slice.ensures.value);
        },
      );
    }
