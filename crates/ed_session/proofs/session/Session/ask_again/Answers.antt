use Rattle.std.proofs.Common.{◌∙◌, ap, refl}
use Rattle.ed_session.proofs.Advancing.{as_goes, asks_again}
use Rattle.ed_session.proofs.session.Session.ask_again.Goals as goal

pub returns-clause-same : goal.returns-clause-same
returns-clause-same g c =
    let v = c.self.view_is in
    as_goes c.args.self.now _ _ _ v (asks_again _ _ (ap (λ u. u.phase) v ∙ c.requires.waiting) refl refl refl refl refl refl)
