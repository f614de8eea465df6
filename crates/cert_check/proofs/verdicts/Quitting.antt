-- A command that ends the run leaves the lines as they are.
use Rattle.std.proofs.Common.{◌≡◌, Bool, true, false, [], Option, Result, Ok, Err, IfOk, refl, ◌∙◌, sym, ap}
use Rattle.ed_base.specs.declared.fault.Fault.{Fault}
use Rattle.ed_base.specs.declared.fault.Fault.TheVariants as fault
use Rattle.ed_syntax.specs.declared.request.Answer.{Answer}
use Rattle.ed_syntax.specs.Commands as ed
use Rattle.ed_syntax.specs.Commands.{Addresses, Form, Command}
use Rattle.ed_syntax.specs.meaning.States.{State}
use Rattle.ed_syntax.specs.meaning.Values.{◌>>◌}
use Rattle.ed_syntax.specs.meaning.Effects.{Effect, Makes, Asks, only}
use Rattle.ed_syntax.specs.meaning.Files as file
use Rattle.ed_syntax.specs.meaning.Applied.{Placed, placed, making, completed, suffix_written, command}
use Rattle.ed_syntax.specs.meaning.CommandLaws.{KeepsTheRest, InOrder, CommandsArePlaced}
use Rattle.ed_syntax.proofs.meaning.ResultLemmas.{IfOk-bind, IfOk-after}

-- a command's lines and target leave the lines and the flag
abbrev SamePlaced : State → Placed → Type 0
SamePlaced e p = KeepsTheRest e p.state × InOrder p.span

same-lines : (e s : State) → KeepsTheRest e s → s.lines ≡ e.lines
same-lines e s same = ap (λ (t : State). t.lines) same

same-flag : (e s : State) → KeepsTheRest e s → s.changed ≡ e.changed
same-flag e s same = ap (λ (t : State). t.changed) same

-- what is made has the same lines
abbrev pub SameMade : State → Effect → Type 0
SameMade e (Makes o) = o.state.lines ≡ e.lines
SameMade e (Asks r) = ⊥

-- and the buffer was saved
abbrev pub SavedMade : State → Effect → Type 0
SavedMade e f = SameMade e f × (e.changed ≡ false)

quit-completed : (a : Addresses) (suffix : Option Form) (listed : Bool) (e s : State) → s.lines ≡ e.lines →
    IfOk (completed (record { addresses = a; verb = ed.QuitAnyway; suffix = suffix; listed = listed }) e (Makes (only s []))) (SameMade e)
quit-completed a suffix listed e s same =
    IfOk-after (SameMade e) (suffix_written suffix s) _ (λ more. same)

pub quit-leaves : CommandsArePlaced → (a : Addresses) (suffix : Option Form) (listed : Bool) (e : State) (given : Option Answer) →
    IfOk (command e (record { addresses = a; verb = ed.QuitAnyway; suffix = suffix; listed = listed }) given) (SameMade e)
quit-leaves place a suffix listed e given =
    let c : Command = record { addresses = a; verb = ed.QuitAnyway; suffix = suffix; listed = listed } in
    IfOk-bind (SamePlaced e) (SameMade e) (placed c e) _ (place c e)
    (λ p same. quit-completed a suffix listed e p.state (same-lines e p.state same.0))

-- a quit that a changed buffer refuses
saved-completed : (a : Addresses) (suffix : Option Form) (listed : Bool) (e s : State) → s.lines ≡ e.lines → s.changed ≡ e.changed →
    IfOk (making (file.quit s) >> completed (record { addresses = a; verb = ed.Quit; suffix = suffix; listed = listed }) e) (SavedMade e)
saved-completed a suffix listed e s same flag =
    let c : Command = record { addresses = a; verb = ed.Quit; suffix = suffix; listed = listed } in
    (elim s.changed as (λ b. s.changed ≡ b →
    IfOk (making ((elim b as (λ _. Result State Fault) [ true ↦ Err fault.Unsaved | false ↦ Ok s ]) >> λ t. Ok
    (only t [])) >> completed c e) (SavedMade e)) [
      | true ↦ λ k. tt
      | false ↦ λ k. IfOk-after (SavedMade e) (suffix_written suffix s) _ (λ more. (same, sym flag ∙ k))
    ]) refl

pub saved-leaves : CommandsArePlaced → (a : Addresses) (suffix : Option Form) (listed : Bool) (e : State) (given : Option Answer) →
    IfOk (command e (record { addresses = a; verb = ed.Quit; suffix = suffix; listed = listed }) given) (SavedMade e)
saved-leaves place a suffix listed e given =
    let c : Command = record { addresses = a; verb = ed.Quit; suffix = suffix; listed = listed } in
    IfOk-bind (SamePlaced e) (SavedMade e) (placed c e) _ (place c e)
    (λ p same. saved-completed a suffix listed e p.state (same-lines e p.state same.0) (same-flag e p.state same.0))
