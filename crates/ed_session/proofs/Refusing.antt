-- There is a reason just where the call that was logged last was refused.
use Rattle.std.proofs.Common.{◌≡◌, ◌∙◌, List, [], ◌∷◌, ◌++◌, Option, ap, refl, sym}
use Rattle.std.specs.Prelude.{is_some}
use Rattle.ed_syntax.specs.declared.request.Answer.{Answer}
use Rattle.ed_session.specs.Drives.{ends_refused, is_refusal}
use Rattle.ed_session.specs.Seen.{answer_seen, log_seen}
use Rattle.ed_session.specs.declared.seen.SeenAnswer.{SeenAnswer}
use Rattle.ed_session.specs.declared.seen.SeenRequest.{SeenRequest}

refused_last : (log : List (SeenRequest × SeenAnswer)) (asked : SeenRequest) (seen : SeenAnswer) →
    ends_refused (log_seen (log ++ (asked, seen) ∷ [])) ≡ is_refusal (answer_seen seen)
refused_last [] asked seen = refl
refused_last (first ∷ []) asked seen = refl
refused_last (first ∷ next ∷ log) asked seen = refused_last (next ∷ log) asked seen

pub reason_kept : {E : Type 0} (reason : Option E) (given : Answer) (log new : List (SeenRequest × SeenAnswer)) (asked : SeenRequest) (seen : SeenAnswer)
    → is_some reason ≡ is_refusal given → answer_seen seen ≡ given → new ≡ log ++ (asked, seen) ∷ [] → is_some reason ≡ ends_refused (log_seen new)
reason_kept reason given log new asked seen told is pushed = rw pushed (told ∙ (ap is_refusal (sym is) ∙ sym (refused_last log asked seen)))
