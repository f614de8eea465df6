use Rattle.cert_check.specs.text.FactsText.{fact_word, FactIsFormed}
use Rattle.cert_check.proofs.texts.ReadWords.{not-nothing}
use Rattle.cert_check.proofs.texts.ReadNamed.{stopped, ended, one-more}
use Rattle.cert_check.proofs.texts.ReadFacts.{facts-told}
use Rattle.cert_check.proofs.text.fact_reading.facts_in.Goals as goal

pub loop-word-preserved : goal.loop-word-preserved
loop-word-preserved c =
    let read = rw c.in-Some-2.is at c.in_ok-fact.ensures.exact in
    let more =
    one-more fact_word (FactIsFormed c.args.marks.now) c.loop-word.facts.items _ c.push.new.self.items c.loop-word.left.now c.args.text.now c.in-Some.word.now
    c.in-Some.later.now c.in_ok-push.ensures.items c.loop-word.invariant.read c.in-Some.ensures.cases read.0 read.1 c.loop-word.invariant.each in
    record { read = more.read; ends = more.ends; each = more.each }

pub returns-in_default-2 : goal.returns-in_default-2
returns-in_default-2 c = record {
  exact = λ v h e.
      let none = rw c.in_default-2.is at c.in_ok-fact.ensures.exact in
      stopped fact_word (FactIsFormed c.args.marks.now) (facts-told c.args.marks.now) c.loop-word.facts.items v c.loop-word.left.now c.args.text.now
      c.in-Some.word.now c.in-Some.later.now c.loop-word.invariant.each c.loop-word.invariant.read c.loop-word.invariant.ends c.in-Some.ensures.cases none h e;
}

pub returns-then-not-is_empty : goal.returns-then-not-is_empty
returns-then-not-is_empty c = record {
  exact = λ v h e.
      ended fact_word (FactIsFormed c.args.marks.now) (facts-told c.args.marks.now) c.loop-word.facts.items v c.loop-word.left.now c.args.text.now
      c.loop-word.invariant.each c.loop-word.invariant.read c.loop-word.invariant.ends c.in_default.ensures.cases
      (not-nothing c.loop-word.left.now c.if-not-is_empty.ensures) h e;
}
