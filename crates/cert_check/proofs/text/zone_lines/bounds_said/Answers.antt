use Rattle.std.proofs.Common.{ℕ, length, arith, sym, ap, subst}
use Rattle.std.proofs.lemmas.Bool.{eqb-false}
use Rattle.cert_check.proofs.texts.SpokenBounds.{SaysRest, rest-first, rest-none, said-further, spoken-further}
use Rattle.cert_check.proofs.text.zone_lines.bounds_said.Goals as goal

pub words-preserved : goal.words-preserved
words-preserved c =
    let before = c.words.invariant in
    let left = c.words.left.now in
    let bound = c.in-Some.first.0 in
    let later = c.in-Some.first.1.now in
    let read = c.in-Some.ensures.exact in
    record {
      spoken = spoken-further c.words.bounds.items c.push.new.self.items bound c.in_ok-push.ensures.items before.spoken read.0;
      said = said-further c.words.bounds.items c.push.new.self.items bound left later c.args.text.now c.in_ok-push.ensures.items read.1 before.said;
      rest = λ others all rises e.
          let first = rest-first c.words.from left later bound read.0 read.1 (before.rest others all rises e) in
          subst (λ (place : ℕ). SaysRest place later) (omega (arith, c.x.ensures.value, c.y.ensures.value, c.place.ensures.value, c.place-in-words.ensures.value)) first.1;
    }

pub returns-then-place-from : goal.returns-then-place-from
returns-then-place-from c = record {
  exact = λ others all rises e.
      let read = c.in-Some.ensures.exact in
      let first = rest-first c.words.from c.words.left.now c.in-Some.first.1.now c.in-Some.first.0 read.0 read.1 (c.words.invariant.rest others all rises e) in
      omega (arith, first.0, c.x.ensures.value, c.y.ensures.value, c.place.ensures.value, c.place-in-words.ensures.value, c.if-place-from.true);
}

pub returns-in_default : goal.returns-in_default
returns-in_default c = record {
  exact = λ others all rises e.
      rest-none c.words.from c.words.left.now (λ none. eqb-false (length c.words.left.now) 0 (sym c.words-test.ensures) (ap length none)) c.in_default.ensures.exact
      (c.words.invariant.rest others all rises e);
}
