use Rattle.std.proofs.Common.{◌∙◌, sym, ap, map, ℕ, List, ◌++◌}
use Rattle.cert_check.specs.text.FactsText.{stretch_word, StretchIsFormed, stretch_order, is_rising_by}
use Rattle.cert_check.proofs.texts.ReadSets.{after-its-key}
use Rattle.cert_check.proofs.texts.ReadFacts.{stretches-told, rising-read}
use Rattle.cert_check.proofs.text.fact_reading.clear_in.Goals as goal

pub returns-in_default-2 : goal.returns-in_default-2
returns-in_default-2 c = record {
  exact = λ v h e.
      let none = rw c.in_default-2.is at c.in_ok-stretches.ensures.exact in
      none v h.each (after-its-key c.args.key.now c.args.line.now c.in-Some.left.now (map stretch_word v) c.in-Some.ensures.cases e);
}

pub returns-then-not-stretches_rise : goal.returns-then-not-stretches_rise
returns-then-not-stretches_rise c =
    let read = rw c.in-Some-2.is at c.in_ok-stretches.ensures.exact in
    record {
      exact = λ v h e.
          rising-read stretch_word (StretchIsFormed c.args.marks.now) (stretches-told c.args.marks.now) stretch_order c.args.key.now c.args.line.now c.in-Some.left.now
          c.in-Some-2.stretches.items v c.in-Some.ensures.cases read.0 read.1
          (sym (c.if-not-stretches_rise.ensures.value ∙ ap (λ items. is_rising_by stretch_order items) c.as_slice.ensures.value)) h.each h.rising e;
    }

pub returns : goal.returns
returns c =
    let read = rw c.in-Some-2.is at c.in_ok-stretches.ensures.exact in
    record {
      exact = (
        ap (λ (l : List ℕ). c.args.key.now ++ l) read.0 ∙ sym c.in-Some.ensures.cases,
        record {
          each = read.1;
          rising = sym (c.if-not-stretches_rise.ensures.value ∙ ap (λ items. is_rising_by stretch_order items) c.as_slice.ensures.value);
        },
      );
    }
