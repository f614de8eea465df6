use Rattle.std.proofs.Common.{◌∙◌, sym, ap, ℕ, List, None}
use Rattle.std.specs.Prelude.{codes}
use Rattle.ed_rules.specs.Texts.{are_rising}
use Rattle.cert_check.proofs.texts.ReadSets.{texts-read}
use Rattle.cert_check.proofs.text.lines.writes_in.Goals as goal

pub returns-then-not-do_rise : goal.returns-then-not-do_rise
returns-then-not-do_rise c =
    let read = rw c.in-Some.is at c.in_ok-paths.ensures.exact in
    record {
      exact =
          texts-read (codes "writes") c.args.line.now c.in-Some.paths.items None read.0 read.1 tt tt
          (sym (c.if-not-do_rise.ensures.value ∙ ap (λ (s : List (List ℕ)). are_rising s) c.as_slice.ensures.value));
    }
