-- Refusals one after another.
use Rattle.std.proofs.Common.{◌≡◌, ◌<◌, ◌+◌, ℕ, List, [], ◌∷◌, ◌++◌, length, drop, get_or, Option, None, inl, refl, sym, subst, ◌∙◌, arith, ap, map, length-append}
use Rattle.std.specs.List.{All, Any}
use Rattle.std.proofs.lemmas.List.Elements.{All-head, All-same}
use Rattle.analyser.specs.declared.analysis.Start.{Start}
use Rattle.analyser.specs.Analysis.{IsFailure}
use Rattle.cert_check.specs.Certificates.{note_value}
use Rattle.ed_syntax.specs.Commands.{Script}
use Rattle.hints.specs.declared.hint.Hint.{Hint}
use Rattle.hints.specs.declared.refusing.Refusal.{Refusal}
use Rattle.ed_syntax.specs.reading.Reading.{script_of}
use Rattle.cert_check.specs.declared.checker.verdict.Place.{Place}
use Rattle.hints.specs.Passing.{IsAllowed, IsVouched, MoreLinesHelp, Keeps, GetsPastWhole, last_of}
use Rattle.hints.specs.Passing as passing
use Rattle.hints.specs.Allowing.{StaysSuited}
use Rattle.hints.specs.Hints.{IsUnchanged, IsFrom, IsMarked, StaysSomewhere, IsTried, AsksForMore, IsStated}
use Rattle.hints.specs.Refusals.{IsRefusal, GoesOnWith, hinted, passed, AreInTurn, none, more, AreRefusals, vouched, stopped, cut}
use Rattle.hints.specs.declared.refusing.Rest.{Rest}
use Rattle.hints.specs.declared.refusing.Rest.TheVariants as rest
use Rattle.hints.specs.Hints as hints

-- a list that isn't empty is its first element and the others
pub front-of : {A : Type 0} → (xs : List A) (x : A) → 0 < length xs → x ≡ get_or xs 0 x → xs ≡ x ∷ drop 1 xs
front-of [] x lt is = absurd (omega arith)
front-of {A} (y ∷ ys) x lt is = ap (λ (z : A). z ∷ ys) (sym is)

-- a refusal of what came of the earlier ones stands after them
at-hand : (file : Option (List ℕ)) (script : List ℕ) (start : Start) (told : List Refusal) (now : List ℕ) (opened : Start) (r : Refusal) → AreInTurn file script start told now opened →
    r.script ≡ now → r.start ≡ opened → AreInTurn file script start told r.script r.start
at-hand file script start told now opened r in-turn same also =
    subst (λ (s : Start). AreInTurn file script start told r.script s) (sym also) (subst (λ (s : List ℕ). AreInTurn file script start told s opened) (sym same) in-turn)

-- it is the last one where it has no hint
pub stops : (file : Option (List ℕ)) (script : List ℕ) (start : Start) (told all : List Refusal) (now : List ℕ) (opened : Start) (r : Refusal) → AreInTurn file script start told now opened →
    IsRefusal file r → r.script ≡ now → r.start ≡ opened → r.hints.items ≡ [] → all ≡ told ++ r ∷ [] → AreRefusals file script start all rest.Unmended
stops file script start told all now opened r in-turn is same also hints pushed =
    subst (λ (rs : List Refusal). AreRefusals file script start rs rest.Unmended) (sym pushed) (stopped told r (at-hand file script start told now opened r in-turn same also) is hints)

-- there is no further one where what is looked at after the earlier ones is vouched for
pub ends : (file : Option (List ℕ)) (script : List ℕ) (start : Start) (told : List Refusal) (now read : List ℕ) (opened : Start) → AreInTurn file script start told now opened → read ≡ now →
    IsVouched (script_of read) opened → AreRefusals file script start told rest.Vouched
ends file script start told now read opened in-turn same is =
    vouched told now opened in-turn (subst (λ (s : List ℕ). IsVouched (script_of s) opened) same is)

-- where none came, the script and the start are the first ones
none-before : (file : Option (List ℕ)) (script : List ℕ) (start : Start) (told : List Refusal) (now : List ℕ) (then : Start) → AreInTurn file script start told now then → told ≡ [] →
    IsVouched (script_of now) then → IsVouched (script_of script) start
none-before file script start told now then none over is = is
none-before file script start told now then (more before r on so in-turn refused goes) over is =
    absurd (omega (arith, simp length-append at (ap length over)))

-- so there are none only where the script is vouched for
pub none-told : (file : Option (List ℕ)) (script : List ℕ) (start : Start) (told : List Refusal) (after : Rest) → AreRefusals file script start told after → told ≡ [] →
    IsVouched (script_of script) start
none-told file script start told after (vouched all now then in-turn is) over = none-before file script start told now then in-turn over is
none-told file script start told after (stopped before r in-turn is hints) over = absurd (omega (arith, simp length-append at (ap length over)))
none-told file script start told after (cut all now then in-turn many) over = absurd (omega (arith, many, ap length over))

-- or it is mended too
pub goes-on : (file : Option (List ℕ)) (script : List ℕ) (start : Start) (told all : List Refusal) (now later : List ℕ) (opened bounded : Start) (r : Refusal) →
    AreInTurn file script start told now opened → IsRefusal file r → r.script ≡ now → r.start ≡ opened → GoesOnWith r later bounded → all ≡ told ++ r ∷ [] →
    AreInTurn file script start all later bounded
goes-on file script start told all now later opened bounded r in-turn is same also goes pushed =
    subst (λ (rs : List Refusal). AreInTurn file script start rs later bounded) (sym pushed)
    (more told r later bounded (at-hand file script start told now opened r in-turn same also) is goes)

-- what is looked at after a refusal has bounds that are allowed
pub stays-allowed : (file : Option (List ℕ)) (r : Refusal) (now : List ℕ) (bounded opened : Start) → IsRefusal file r → GoesOnWith r now bounded → r.start ≡ opened → IsAllowed opened →
    IsAllowed bounded
stays-allowed file r now bounded opened is (hinted h hs hints reads starts) same allowed =
    let tried : IsTried r.script r.start r.place h = All-head (IsTried r.script r.start r.place) h hs (All-same (IsTried r.script r.start r.place) _ _ (sym hints) is.tried) in
    subst IsAllowed (sym starts) tried.allowed
stays-allowed file r now bounded opened is (passed without over starts) same allowed = subst IsAllowed (sym (starts ∙ same)) allowed

-- a hint of a script and a start that were tried, over a start that keeps what another one says
pub tried-by : (old : List ℕ) (given : Start) (place : Place) (h : Hint) (script : List ℕ) (start : Start) (count : ℕ) → Keeps given start →
    IsMarked old given script start → StaysSomewhere given start → IsAllowed start → GetsPastWhole (script_of script) start (last_of place count) → h.script ≡ script → h.start ≡ start → h.past ≡ count → IsFrom place old script count h.change →
    IsTried old given place h
tried-by old given place h script start count kept marked somewhere allowed past reads starts counts is-from = record {
  from =
      subst (λ (s : List ℕ). IsFrom place old s h.past h.change) (sym reads)
      (subst (λ (n : ℕ). IsFrom place old script n h.change) (sym counts) is-from);
  kept = subst (λ (s : Start). Keeps given s) (sym starts) kept;
  marked =
      subst (λ (s : Start). IsMarked old given h.script s) (sym starts)
      (subst (λ (s : List ℕ). IsMarked old given s start) (sym reads) marked);
  somewhere = subst (λ (s : Start). StaysSomewhere given s) (sym starts) somewhere;
  allowed = subst IsAllowed (sym starts) allowed;
  past =
      subst (λ (s : Start). GetsPastWhole (script_of h.script) s (last_of place h.past)) (sym starts)
      (subst (λ (s : List ℕ). GetsPastWhole (script_of s) start (last_of place h.past)) (sym reads)
      (subst (λ (n : ℕ). GetsPastWhole (script_of script) start (last_of place n)) (sym counts) past));
}

-- a refusal is one of the script and the start that were given, by whatever names they were analysed
pub refused-as : (file : Option (List ℕ)) (r : Refusal) (script : List ℕ) (start : Start) (read : Script) (opened : Start) → read ≡ script_of script → opened ≡ start →
    r.script ≡ script → r.start ≡ start → IsFailure read opened r.place r.why (map note_value r.notes.items) → All (IsTried script start r.place) r.hints.items →
    All (λ (h : Hint). StaysSuited file start h.start) r.hints.items →
    (file ≡ None → MoreLinesHelp (script_of script) start → Any (AsksForMore script start) r.hints.items) →
    (file ≡ None → IsStated script start r.place r.why (map note_value r.notes.items) r.hints.items) →
    IsRefusal file r × (r.script ≡ script) × (r.start ≡ start)
refused-as file r script start read opened reads opens same also fails tried suited asks states =
    let fails : IsFailure (script_of script) start r.place r.why (map note_value r.notes.items) =
    subst (λ (s : Start). IsFailure (script_of script) s r.place r.why (map note_value r.notes.items)) opens
    (subst (λ (s : Script). IsFailure s opened r.place r.why (map note_value r.notes.items)) reads fails) in (
      record {
        fails =
            subst (λ (s : Start). IsFailure (script_of r.script) s r.place r.why (map note_value r.notes.items)) (sym also)
            (subst (λ (s : List ℕ). IsFailure (script_of s) start r.place r.why (map note_value r.notes.items)) (sym same) fails);
        tried =
            subst (λ (s : Start). All (IsTried r.script s r.place) r.hints.items) (sym also)
            (subst (λ (s : List ℕ). All (IsTried s start r.place) r.hints.items) (sym same) tried);
        suited = subst (λ (s : Start). All (λ (h : Hint). StaysSuited file s h.start) r.hints.items) (sym also) suited;
        asks =
            subst (λ (s : Start). file ≡ None → MoreLinesHelp (script_of r.script) s → Any (AsksForMore r.script s) r.hints.items) (sym also)
            (subst (λ (s : List ℕ). file ≡ None → MoreLinesHelp (script_of s) start → Any (AsksForMore s start) r.hints.items) (sym same) asks);
        states =
            subst (λ (s : Start). file ≡ None → IsStated r.script s r.place r.why (map note_value r.notes.items) r.hints.items) (sym also)
            (subst (λ (s : List ℕ). file ≡ None → IsStated s start r.place r.why (map note_value r.notes.items) r.hints.items) (sym same) states);
      },
      same,
      also,
    )

-- before the first refusal
pub begins : (file : Option (List ℕ)) (script : List ℕ) (start : Start) (told : List Refusal) (now : List ℕ) (opened : Start) → told ≡ [] → now ≡ script → opened ≡ start →
    AreInTurn file script start told now opened
begins file script start told now opened over same also =
    subst (λ (rs : List Refusal). AreInTurn file script start rs now opened) (sym over)
    (subst (λ (s : List ℕ). AreInTurn file script start [] s opened) (sym same) (subst (λ (s : Start). AreInTurn file script start [] script s) (sym also) none))

-- and then there are none
pub begins-count : (told : List Refusal) → told ≡ [] → length told ≡ 0
begins-count told over = ap length over

-- each one more counts one
pub goes-on-count : (told all : List Refusal) (r : Refusal) (n : ℕ) → all ≡ told ++ r ∷ [] → length told ≡ n → length all ≡ n + 1
goes-on-count told all r n pushed count = subst (λ (rs : List Refusal). length rs ≡ n + 1) (sym pushed) (simp length-append (omega arith))

-- a hint of a script that is vouched for over a start that keeps what another one says
pub tried-vouched : (given : Start) (place : Place) (h : Hint) (script : List ℕ) (start : Start) → Keeps given start →
    IsMarked script given script start → StaysSomewhere given start → IsAllowed start → IsVouched (script_of script) start → h.script ≡ script → h.start ≡ start → IsUnchanged place h.past h.change → IsTried script given place h
tried-vouched given place h script start kept marked somewhere allowed is reads starts unchanged =
    tried-by script given place h script start h.past kept marked somewhere allowed (λ inner low. passing.vouched is) reads starts refl (hints.same refl unchanged)
