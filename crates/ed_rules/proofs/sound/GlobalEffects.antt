-- What `g` and `v` do before their list, and what `u` does, side by side.
use Rattle.std.proofs.Common.{◌≡◌, ◌≤◌, ℕ, ◌+◌, Bool, true, false, cond, List, [], Option, Some, None, Ok, refl, sym}
use Rattle.std.specs.Prelude.{not, map}
use Rattle.ed_base.specs.declared.fault.Fault.TheVariants as fault
use Rattle.ed_base.specs.Buffer.{Line}
use Rattle.ed_base.specs.Parts.{between, replaced}
use Rattle.ed_syntax.specs.declared.command.Sense.{Sense}
use Rattle.ed_syntax.specs.meaning.States as editor
use Rattle.ed_syntax.specs.meaning.States.{Past, Nothing, Same, Was, Kept, kept, unflagged}
use Rattle.ed_syntax.specs.meaning.Ranges.{Span}
use Rattle.ed_syntax.specs.meaning.Values.{◌>>◌, used_pattern}
use Rattle.ed_syntax.specs.meaning.Effects as effects
use Rattle.ed_syntax.specs.meaning.Effects.{Outcome, Effect, Makes, Asks, only}
use Rattle.ed_syntax.specs.meaning.Globals.{flagged_line, flagged}
use Rattle.ed_syntax.specs.meaning.Applied.{making}
use Rattle.ed_rules.specs.declared.state.Old.{Old}
use Rattle.ed_rules.specs.declared.state.State.{State}
use Rattle.ed_rules.specs.Choices.{Choice}
use Rattle.ed_rules.specs.StandsFor.{AllowsKept, AllowsPast}
use Rattle.ed_rules.specs.Addresses.{possible_patterns}
use Rattle.ed_rules.specs.Substituting.{pattern_used}
use Rattle.ed_rules.specs.Order.{join}
use Rattle.ed_rules.specs.Undoing.{present_of, brought_back, undone_by, undone}
use Rattle.ed_rules.specs.FactsAfter.{facts_ended}
use Rattle.ed_rules.specs.facts.Facts.{FactsHold, no_facts}
use Rattle.ed_rules.proofs.Basics.{Agrees, Agrees-bind, Agrees-map, Agrees-needing, Agrees-weaker}
use Rattle.ed_rules.proofs.sound.Standing.{Stands, nothing-holds}
use Rattle.ed_rules.proofs.sound.Finishing.{Follows, Holds-without_addresses}
use Rattle.ed_rules.proofs.sound.Following.{KnownBy, KnownAt}
use Rattle.ed_rules.proofs.sound.Weaker.{Known-covers}
use Rattle.ed_rules.proofs.CoveringStates.{Covers-join, Covers-join_other}
use Rattle.ed_rules.proofs.facts.FactsByBytes.{FactsHold-bytes}
use Rattle.ed_rules.proofs.facts.FactsEnded.{ended-agreed}
use Rattle.ed_rules.proofs.sound.Flags.{HoldsBy-alike, texts-unflagged, kept-buffer, alike-taken}
use Rattle.ed_rules.proofs.sound.SubstitutionEffects.{IsPossible, patterns-sound, not-true}

-- `g` and `v`

flag-stands : (sense : Sense) (u : State) (e : editor.State) (x : Span) (patterns : List Choice) (text : List ℕ) → Stands u e → x.first ≤ x.last + 1 → IsPossible patterns text →
    Stands (record u { patterns = patterns }) (record e { lines = replaced x.first x.last (map (flagged_line sense text) (between x.first x.last e.lines)) e.lines; pattern = Some text })
flag-stands sense u e x patterns text st le k =
    let lines : List Line = replaced x.first x.last (map (flagged_line sense text) (between x.first x.last e.lines)) e.lines in (
      st.0,
      record {
        buffer = HoldsBy-alike u.zone u.marks e.lines lines e.current st.0 (alike-taken sense text x.first x.last e.lines le) st.1.buffer;
        remembered = (k, st.1.remembered.1, st.1.remembered.2);
        changed = st.1.changed;
        past = st.1.past;
      },
    )

pub flag-follows : (listed : Bool) (sense : Sense) (pattern : Option (List ℕ)) (start : editor.State) (u : State) (e : editor.State) (x : Span) → Stands u e → x.first ≤ x.last + 1 →
    Agrees (Follows listed start) (pattern_used pattern u) (flagged sense pattern x e >> λ t. Ok (Makes (only t [])))
flag-follows listed sense pattern start u e x st le =
    Agrees-map Stands (Follows listed start) (pattern_used pattern u) (flagged sense pattern x e) (λ t. Makes (only t []))
    (Agrees-bind IsPossible Stands (possible_patterns pattern u) (used_pattern pattern e) _ _ (patterns-sound pattern u e st.1.remembered.0)
    (λ patterns text k. flag-stands sense u e x patterns text st le k))
    (λ a b h. h)

-- `u`

-- the editor with a buffer that undo brought back
abbrev back : Kept → editor.State → editor.State
back before e = record e { lines = before.lines; current = before.current; changed = true; past = Was (kept e) }

-- of a buffer whose addresses are forgotten no less is allowed
present-allowed : (u : State) (e : editor.State) → KnownAt u e → AllowsKept (Some (present_of u)) (kept e)
present-allowed u e st =
    let k = kept-buffer u e st.0 st.1 in
    let lines : List Line = unflagged e.lines in (
      st.0,
      record { holds = Holds-without_addresses u.zone st.0 k.holds; reads = k.reads; inside = k.inside },
      (elim u.follows as (λ b. (b ≡ true → FactsHold u.facts st.0 e.lines) → FactsHold (cond b (facts_ended u.marks u.facts) no_facts) st.0 lines) [
        | true ↦ λ f.
            ended-agreed u.marks lines e.current st.0 st.0 k.reads k.reads u.facts (FactsHold-bytes u.facts st.0 e.lines lines (sym (texts-unflagged e.lines)) (f refl))
        | false ↦ λ f. nothing-holds st.0 lines
      ]) st.2,
    )

back-known : (old : Old) (u : State) (e : editor.State) (before : Kept) → AllowsKept (Some old) before → KnownAt u e → KnownBy u.follows (brought_back old u) (back before e)
back-known old u e before h st = (
  h.0,
  record {
    buffer = h.1;
    remembered = st.1.remembered;
    changed = refl;
    past = present-allowed u e st;
  },
  λ f. h.2,
)

same-known : (same : Bool) (was : Option Old) (u : State) (e : editor.State) → same ≡ true → KnownAt u e → KnownBy u.follows (undone_by same was u) e
same-known same None u e h st = st
same-known true (Some old) u e h st = Known-covers u.follows (join u (brought_back old u)) u e (Covers-join u (brought_back old u)) st
same-known false (Some old) u e h st = absurd cc

was-known : (same : Bool) (was : Option Old) (u : State) (e : editor.State) (before : Kept) → AllowsKept was before → KnownAt u e →
    KnownBy u.follows (undone_by same was u) (back before e)
was-known same None u e before h st = absurd h
was-known true (Some old) u e before h st =
    Known-covers u.follows (join u (brought_back old u)) (brought_back old u) (back before e) (Covers-join_other u (brought_back old u)) (back-known old u e before h st)
was-known false (Some old) u e before h st = back-known old u e before h st

-- what `u` leaves, with what was known of single lines
abbrev pub IsUndone : (listed : Bool) → editor.State → (follows : Bool) → State → Effect → Type 0
IsUndone listed start follows r (Makes o) = Follows listed start r (Makes o) × KnownBy follows r o.state
IsUndone listed start follows r (Asks f) = ⊥

undo-by : (listed : Bool) (start : editor.State) (u : State) (e : editor.State) (past : Past) → AllowsPast u.undo past → KnownAt u e → not u.undo.nothing ≡ true →
    Agrees (IsUndone listed start u.follows) (Ok (undone_by u.undo.same u.undo.was u)) (making (effects.undo past e))
undo-by listed start u e Nothing h st k = not-true u.undo.nothing k h
undo-by listed start u e Same h st k = let q = same-known u.undo.same u.undo.was u e h st in ((q.0, q.1), q)
undo-by listed start u e (Was before) h st k = let q = was-known u.undo.same u.undo.was u e before h st in ((q.0, q.1), q)

pub undo-known : (listed : Bool) (start : editor.State) (u : State) (e : editor.State) → KnownAt u e →
    Agrees (IsUndone listed start u.follows) (undone u) (making (effects.undo e.past e))
undo-known listed start u e st =
    Agrees-needing (IsUndone listed start u.follows) (not u.undo.nothing) fault.Undo (undone_by u.undo.same u.undo.was u) (making (effects.undo e.past e))
    (undo-by listed start u e e.past st.1.past st)

undone-follows : (listed : Bool) (start : editor.State) (follows : Bool) (r : State) (f : Effect) → IsUndone listed start follows r f → Follows listed start r f
undone-follows listed start follows r (Makes o) h = h.0
undone-follows listed start follows r (Asks q) h = absurd h

pub undo-follows : (listed : Bool) (start : editor.State) (u : State) (e : editor.State) → KnownAt u e → Agrees (Follows listed start) (undone u) (making (effects.undo e.past e))
undo-follows listed start u e st =
    Agrees-weaker (IsUndone listed start u.follows) (Follows listed start) (undone u) (making (effects.undo e.past e)) (undone-follows listed start u.follows)
    (undo-known listed start u e st)
