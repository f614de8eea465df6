-- What a run comes to after some of its steps.
use Rattle.std.proofs.Common.{◌≡◌, ◌∙◌, ℕ, ◌+◌, Bool, List, [], ◌∷◌, ◌++◌, length, refl, sym, ap}
use Rattle.ed_syntax.specs.declared.request.Request.{Request}
use Rattle.ed_syntax.specs.meaning.Progress.{Progress, Stops, Stop, Event, Wrote, Heard, after, asked_of, cut, output_of, stop_of, RunsOut, CutsAfter}
use Rattle.ed_session.specs.Calls.{written, heard}
use Rattle.ed_session.proofs.Leading.{asked_after, output_after, stop_after}

-- it runs out of memory after some of its steps
pub runs_out_after : CutsAfter → (events : List Event) (p : Progress) (output : List ℕ) (asked : List Request) → RunsOut p output asked
    → RunsOut (after events p) (written events ++ output) (heard events ++ asked)
runs_out_after cuts events p output asked r =
    let c = cuts events r.steps r.bytes p in
    record {
      steps = length events + r.steps;
      bytes = r.bytes;
      lost = ap stop_of c ∙ stop_after events (cut r.steps r.bytes p) ∙ r.lost;
      written = ap (λ o. written events ++ o) r.written ∙ sym (output_after events (cut r.steps r.bytes p)) ∙ sym (ap output_of c);
      answered = ap (λ o. heard events ++ o) r.answered ∙ sym (asked_after events (cut r.steps r.bytes p)) ∙ sym (ap asked_of c);
    }

-- a run that has stopped has no steps
pub no_steps : (help : Bool) (s : Stop) (events : List Event) (p : Progress) → Stops help s ≡ after events p → events ≡ []
no_steps help s [] p e = refl
no_steps help s (Wrote h output ∷ events) p e = cc
no_steps help s (Heard h r ∷ events) p e = cc
