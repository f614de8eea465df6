-- There is a reason just where the call that came last was refused.
use Rattle.std.proofs.Common.{◌≡◌, ◌∙◌, List, [], ◌∷◌, ◌++◌, false, Option, ap, sym}
use Rattle.std.specs.Prelude.{is_some}
use Rattle.std.proofs.lemmas.List.{map-append}
use Rattle.std.proofs.lemmas.List.Sums.{fold_push}
use Rattle.whole.specs.Reasons.{last_refused, refused_then}
use Rattle.whole.specs.SeenDeeds.{deed_seen, deeds_seen}
use Rattle.whole.specs.declared.seen_deed.SeenDeed.{SeenDeed}

pub told_more : {E : Type 0} (reason : Option E) (old new : List SeenDeed) (deed : SeenDeed) → new ≡ old ++ deed ∷ [] →
    is_some reason ≡ refused_then (last_refused (deeds_seen old)) (deed_seen deed) → is_some reason ≡ last_refused (deeds_seen new)
told_more reason old new deed e is =
    is ∙ sym (fold_push refused_then false (deeds_seen old) (deed_seen deed)) ∙ sym (ap last_refused (ap deeds_seen e
    ∙ map-append deed_seen old (deed ∷ [])))
