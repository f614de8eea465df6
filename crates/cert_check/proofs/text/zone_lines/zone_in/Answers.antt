use Rattle.std.proofs.Common.{◌++◌, ℕ, List, ◌∙◌, sym, ap}
use Rattle.cert_check.specs.text.Text.{bounds_words}
use Rattle.cert_check.proofs.texts.ReadSets.{after-its-key}
use Rattle.cert_check.proofs.text.zone_lines.zone_in.Goals as goal

pub returns-in_default-3 : goal.returns-in_default-3
returns-in_default-3 c = record {
  exact = λ v h e.
      let none = rw c.in_default-3.is at c.in_ok-zone-2.ensures.exact in
      none v h (after-its-key c.args.key.now c.args.line.now c.in-Some.words.now (bounds_words 0 v) c.in-Some.ensures.cases e);
}

pub returns : goal.returns
returns c =
    let said = rw c.in-Some-3.is at c.in_ok-zone-2.ensures.exact in
    record { exact = (ap (λ (t : List ℕ). c.args.key.now ++ t) said.0 ∙ sym c.in-Some.ensures.cases, said.1) }
