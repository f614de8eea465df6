-- The number of a line is told.
use Rattle.std.proofs.Common.{◌∙◌, ◌++◌, ℕ, List, Err, ap, subst}
use Rattle.std.specs.Prelude.{decimal}
use Rattle.std.proofs.lemmas.Result.{IfOk-weaker}
use Rattle.cert_check.specs.text.Faults.{IsReading}
use Rattle.ed_calls.specs.Told as meaning
use Rattle.ed_calls.specs.Told.{line_told}
use Rattle.ed_calls.proofs.told.unread_told.Goals as goal

pub returns-in_ok-push_number-in-Line : goal.returns-in_ok-push_number-in-Line
returns-in_ok-push_number-in-Line c =
    let text = c.in_ok-push_number-in-Line.ensures.appended ∙ ap (λ (t : List ℕ). t ++ decimal c.in-Line.number) c.in_ok-text-in-Line.ensures.value in
    record {
      value = IfOk-weaker c.line_told.result _ _ (λ told is bytes h.
          meaning.line c.in-Line.number (subst (λ f. IsReading bytes (Err f)) c.in-Line.is h) (is ∙ ap (λ (t : List ℕ). line_told t 1) text)) c.line_told.ensures.value;
    }
