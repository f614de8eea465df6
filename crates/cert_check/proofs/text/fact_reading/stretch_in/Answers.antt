use Rattle.std.proofs.Common.{sym}
use Rattle.std.proofs.lemmas.Bool.{eqb-false}
use Rattle.cert_check.proofs.texts.ReadFacts.{pattern-left, stretch-read}
use Rattle.cert_check.proofs.text.fact_reading.stretch_in.Goals as goal

pub returns-in_default-2 : goal.returns-in_default-2
returns-in_default-2 c =
    let none = rw c.in_default-2.is at c.in_ok-pattern.ensures.exact in
    let end = c.in-Some-end_in.ensures.exact in
    record {
      exact = λ v h e.
          none v.pattern h.bytes
          (pattern-left c.args.marks.now v c.args.word.now c.in-Some-end_in.left.now c.in-Some-end_in.before h e c.in-len2-up.len_at_least end.0 end.1);
    }

pub returns : goal.returns
returns c =
    let read = rw c.in-Some-2.is at c.in_ok-pattern.ensures.exact in
    let end = c.in-Some-end_in.ensures.exact in
    let name = c.in-Some.ensures.exact in
    record {
      exact =
          stretch-read c.args.marks.now c.in-Some.name c.place-after.result c.in-Some-end_in.before c.in-Some-2.pattern c.args.word.now c.in-Some-end_in.left.now
          c.in-len2-up.len_at_least c.if-sign-ne45.false c.place-after.ensures.in_range c.place-after.ensures.value name.0 name.1
          (eqb-false c.in-Some.name 2 (sym c.if-eq.ensures)) end.0 end.1 c.if-after-before.false read.0 read.1;
    }
