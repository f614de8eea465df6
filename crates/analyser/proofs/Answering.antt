-- The answer, by what the walk over the commands came to.
use Rattle.std.proofs.Common.{◌≡◌, ◌+◌, Bool, List, length, map, None, Some, sym, ap, subst, ◌∙◌}
use Rattle.std.specs.Prelude.{Option}
use Rattle.std.proofs.lemmas.List.{length-map}
use Rattle.ed_base.specs.declared.fault.Fault.{Fault}
use Rattle.ed_syntax.specs.declared.command.Command.{Command}
use Rattle.ed_syntax.specs.Commands.{Script}
use Rattle.ed_syntax.specs.PublicTypes.{steps_value}
use Rattle.ed_rules.specs.declared.state.State.{State}
use Rattle.cert_check.specs.declared.certificate.Note as public
use Rattle.cert_check.specs.declared.checker.verdict.Place.{Place}
use Rattle.cert_check.specs.Certificates.{note_value}
use Rattle.cert_check.specs.declared.sight.Sight.{Sight}
use Rattle.cert_check.specs.checker.Valid.{counted, has_quit}
use Rattle.analyser.specs.declared.analysis.Start.{Start}
use Rattle.analyser.specs.Following.{AreNotes, NotesFail, result_from, sight_over, end_fault, begun}
use Rattle.analyser.specs.Analysis.{CommandFails, EndFails}
use Rattle.analyser.specs.declared.walk.Walk.{Walk}
use Rattle.analyser.specs.Walking.{IsWalk}

-- the fault of the end, by what the walk came to
pub end-is : (script : Script) (quit : Bool) (last left : State) (o : Option Fault) → quit ≡ has_quit script.steps → last ≡ left → o ≡ end_fault quit script.fault last →
    end_fault (has_quit script.steps) script.fault left ≡ o
end-is script quit last left o q l e = sym (e ∙ ap (λ (b : Bool). end_fault b script.fault last) q ∙ ap (λ (s : State). end_fault (has_quit script.steps) script.fault s) l)

-- a fault of a command
pub stops-at : (script : Script) (start : Start) (notes : List public.Note) (place : Place) (why : Fault) → place.command ≡ length notes →
    NotesFail (sight_over script start) place.inner why (counted script.steps) (begun script start) (map note_value notes) → CommandFails script start place why (map note_value notes)
stops-at script start notes place why number fails = record { number = number ∙ sym (length-map notes note_value); fails = fails }

-- a fault at the end, with all notes
pub stops-at_end : (script : Script) (start : Start) (notes : List public.Note) (place : Place) (why : Fault) → AreNotes (sight_over script start) (counted script.steps) (begun script start) (map note_value notes) →
    end_fault (has_quit script.steps) script.fault (result_from (sight_over script start) (counted script.steps) (begun script start) (map note_value notes)) ≡ Some why → place ≡ record { command = length notes + 1; inner = None } →
    EndFails script start place why (map note_value notes)
stops-at_end script start notes place why noted ends at = record {
  at_end = at ∙ ap (λ n. let p : Place = record { command = n + 1; inner = None } in p) (sym (length-map notes note_value));
  noted = noted;
  fails = ends;
}

-- the walk by another name of what it goes from
pub walked-from : (w v : Sight) (commands others : List Command) (start begun : State) (walk : Walk) → w ≡ v → commands ≡ others →
    start ≡ begun → IsWalk w (steps_value commands) start walk → IsWalk v (steps_value others) begun walk
walked-from w v commands others start begun walk sight same begins h =
    subst (λ (u : Sight). IsWalk u (steps_value others) begun walk) sight
    (subst (λ (s : State). IsWalk w (steps_value others) s walk) begins
    (subst (λ (cs : List Command). IsWalk w (steps_value cs) start walk) same h))
