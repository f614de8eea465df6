use Rattle.std.proofs.Common.{◌∙◌, ap, sym, refl}
use Rattle.std.proofs.lemmas.Bool.{false_from_ne_true}
use Rattle.ed_session.specs.Sessions.{is_over}
use Rattle.ed_session.proofs.Advancing.{advances_by, prompt_skipped, prompt_written}
use Rattle.ed_session.proofs.session.Session.write_prompt.Goals as goal

pub returns-then-not-self-clause-given : goal.returns-then-not-self-clause-given
returns-then-not-self-clause-given g c =
    let v = c.self.view_is in
    let untold = false_from_ne_true c.self.inside.told
    (λ h. let n = (c.self.invariant.ended h).0 in let r = ap (λ u. is_over u.phase) v ∙ ap is_over c.requires.between in cc) in
    record {
      same = prompt_skipped c.args.self.now _ c.requires.outside (ap (λ u. u.running_list) v) c.requires.between c.requires.handed_out
          (ap (λ u. u.present.prompting) (sym v) ∙ c.if-not-self.true) refl
          (ap (λ u. u.pending) v ∙ c.requires.handed_out) (ap (λ u. u.present) v) (ap (λ u. u.steps) v) (ap (λ u. u.fault) v);
      idle = refl;
      started = refl;
      handed_out = ap (λ u. u.pending) v ∙ c.requires.handed_out;
      untold = untold;
    }

pub returns-in-Ok-clause-given : goal.returns-in-Ok-clause-given
returns-in-Ok-clause-given g c =
    let v = c.self.view_is in
    let untold = false_from_ne_true c.self.inside.told
    (λ h. let n = (c.self.invariant.ended h).0 in let r = ap (λ u. is_over u.phase) v ∙ ap is_over c.requires.between in cc) in
    let pending = ap (λ u. u.pending) v ∙ c.requires.handed_out in
    let bytes = c.from_bytes.result in
    rw c.output.ensures.value (advances_by c.args.self.now _ bytes
    (prompt_written c.args.self.now _ bytes c.requires.outside (ap (λ u. u.running_list) v) c.requires.between c.requires.handed_out
    (ap (λ u. u.present.prompting) (sym v) ∙ c.if-not-self.false)
    (c.from_bytes.ensures.value ∙ c.in-Ok.ensures.value ∙ ap (λ u. u.present.prompt) v) refl pending (ap (λ u. u.present) v)
    (ap (λ u. u.steps) v) (ap (λ u. u.fault) v))
    refl refl pending untold)
