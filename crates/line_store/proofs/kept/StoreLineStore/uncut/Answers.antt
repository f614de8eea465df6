-- Letters change no text.
use Rattle.std.proofs.Common.{◌≡◌, ℕ, ◌∙◌, List, ap, subst, sym}
use Rattle.std.specs.Prelude.{IfSome}
use Rattle.std.specs.Result.{IfOk}
use Rattle.ed_base.specs.Buffer.{texts}
use Rattle.line_store.specs.Cut.{all_lines}
use Rattle.line_store.specs.Kept.{lines_of}
use Rattle.line_store.specs.Uncut.{StandUncut}
use Rattle.line_store.proofs.Taken.{texts-lettered}
use Rattle.line_store.proofs.kept.StoreLineStore.uncut.Goals as goal

pub returns : goal.returns
returns g c =
    let same = sym (texts-lettered c.self.inside.marks 0 (all_lines c.self.inside.lines)) ∙ ap (λ v. texts (lines_of v)) c.self.view_is in
    let P : List (List ℕ) → Type 0 = λ t. IfOk c.uncut.result (λ u. IfSome u (StandUncut t)) in
    record { texts = subst P same c.uncut.ensures.texts }
