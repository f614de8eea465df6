-- Lines with the flag of a global command: each line that is taken loses it, at the end of the list none has it, and outside lists none
-- had it before.
use Rattle.std.proofs.Common.{◌≡◌, ◌<◌, ◌≤◌, ℕ, ◌+◌, Bool, true, false, cond, get_or, List, [], ◌∷◌, length, Option, None, Some, option_map, Ok, arith, refl, ◌∙◌, sym, ap, subst}
use Rattle.std.specs.List.{count_by}
use Rattle.std.proofs.lemmas.Bool.{false≢true}
use Rattle.std.proofs.lemmas.List.Sums.{sum_by-set, sum_by-cons}
use Rattle.std.proofs.lemmas.List.Elements.{All-nil, All-cons, All-set}
use Rattle.std.proofs.lemmas.List.Quantifiers.{position-Some}
use Rattle.ed_base.specs.Buffer.{Line, plain_line, with_flag, flagged_at, flagged_place}
use Rattle.ed_syntax.specs.declared.request.Answer.{Answer}
use Rattle.ed_syntax.specs.Commands.{Command}
use Rattle.ed_syntax.specs.meaning.Applied.{command}
use Rattle.ed_syntax.specs.meaning.CommandLaws.{OfPast}
use Rattle.ed_syntax.specs.meaning.Effects.{Outcome, Makes}
use Rattle.ed_syntax.specs.meaning.Globals.{flags, taken_at, next_taken, past_of_global, closed}
use Rattle.ed_syntax.specs.meaning.States as editor
use Rattle.ed_syntax.specs.meaning.States.{Open, Kept, Past, Same, Was, kept, unflagged}
use Rattle.ed_syntax.specs.meaning.Verbs.{is_global}
use Rattle.ed_rules.specs.GlobalSoundness.{FlaggedPass, passes_none, HasNoFlags, NoFlagsAreKept}
use Rattle.cert_check.specs.declared.certificate.Version.{Version}
use Rattle.cert_check.specs.declared.certificate.Version.TheVariants as version
use Rattle.cert_check.specs.checker.Opening.{opened}
use Rattle.cert_check.specs.checker.Sound.{IsUnflagged}

-- a line passes where it has no flag, or its bytes pass
abbrev PassesBy : (List ℕ → Bool) → Line → Type 0
PassesBy test line = line.flag ≡ true → test line.bytes ≡ true

-- THE LINE THAT IS TAKEN

unflagged-one : (ls : List Line) (place : ℕ) → place < length ls → (get_or ls place (plain_line [])).flag ≡ true → count_by (λ (line : Line). line.flag) (flagged_at place false ls) + 1 ≡ count_by (λ (line : Line). line.flag) ls
unflagged-one ls place h flag =
    let f : Line → ℕ = λ (line : Line). cond line.flag 1 0 in
    let line : Line = get_or ls place (plain_line []) in
    let q = sum_by-set f ls place (with_flag false line) (plain_line []) h in
    let one : f line ≡ 1 = ap (λ (b : Bool). cond b 1 0) flag in
    omega arith

flagged_at-pass : (test : List ℕ → Bool) (ls : List Line) (place : ℕ) → FlaggedPass test ls → FlaggedPass test (flagged_at place false ls)
flagged_at-pass test ls place h =
    All-set (λ (line : Line). line.flag ≡ true → test line.bytes ≡ true) ls place (with_flag false (get_or ls place (plain_line []))) (λ f. absurd cc) h

taken-from : (e f : editor.State) (p : Option ℕ) → option_map (taken_at e) p ≡ Some f → (place : ℕ) × (p ≡ Some place) × (taken_at e place ≡ f)
taken-from e f None is = absurd cc
taken-from e f (Some place) is = (place, refl, cc)

-- what a line that is taken leaves: a line fewer has the flag, and those that have it pass as before
pub record Taken (test : List ℕ → Bool) (most : ℕ) (e f : editor.State) : Type 0 where
  pub same : f.global ≡ e.global
  pub pass : FlaggedPass test f.lines
  pub few : flags f ≤ most

pub is-taken : (test : List ℕ → Bool) (most : ℕ) (e f : editor.State) → next_taken e ≡ Some f → FlaggedPass test e.lines → flags e ≤ most + 1 → Taken test most e f
is-taken test most e f is pass few =
    let q = taken-from e f (flagged_place e.lines) is in
    let at = position-Some (λ (line : Line). line.flag) e.lines q.0 (plain_line []) q.1 in
    let fewer = unflagged-one e.lines q.0 at.0 at.1 in
    subst (λ (u : editor.State). Taken test most e u) q.2
    (record { same = refl; pass = flagged_at-pass test e.lines q.0 pass; few = omega arith })

-- THE END OF THE LIST

pub none-left : (ls : List Line) → count_by (λ (line : Line). line.flag) ls ≤ 0 → FlaggedPass passes_none ls
none-left [] h = All-nil (PassesBy passes_none)
none-left (l ∷ ls) h =
    let q = sum_by-cons (λ (line : Line). cond line.flag 1 0) l ls in
    (elim l.flag as (λ b. l.flag ≡ b → FlaggedPass passes_none (l ∷ ls)) [
      | true ↦ λ e. let one : cond {A = ℕ} l.flag 1 0 ≡ 1 = ap (λ (b : Bool). cond {A = ℕ} b 1 0) e in absurd (omega arith)
      | false ↦ λ e. All-cons (PassesBy passes_none) l ls (λ k. let z : false ≡ true = sym e ∙ k in absurd cc) (none-left ls (omega arith))
    ]) refl

-- where no line has the flag none is taken
pub never-taken : (e f : editor.State) → next_taken e ≡ Some f → FlaggedPass passes_none e.lines → ⊥
never-taken e f is none =
    let q = taken-from e f (flagged_place e.lines) is in
    let at = position-Some (λ (line : Line). line.flag) e.lines q.0 (plain_line []) q.1 in
    false≢true (none q.0 (plain_line []) at.0 at.1)

unflagged-none : (ls : List Line) → FlaggedPass passes_none (unflagged ls)
unflagged-none [] = All-nil (PassesBy passes_none)
unflagged-none (l ∷ ls) = All-cons (PassesBy passes_none) (with_flag false l) (unflagged ls) (λ k. absurd cc) (unflagged-none ls)

past-over : (begun : editor.State) (g : Open) → g.before ≡ kept begun → OfPast (FlaggedPass passes_none) (past_of_global g)
past-over begun g is =
    elim g.altered as (λ b. OfPast (FlaggedPass passes_none) (elim b as (λ _. Past) [ true ↦ Was g.before | false ↦ Same ])) [
      | true ↦ subst (λ (p : Kept). FlaggedPass passes_none p.lines) (sym is) (unflagged-none begun.lines)
      | false ↦ tt
    ]

over-no-flags : (begun f : editor.State) (g : Open) → f.global ≡ Some g → g.before ≡ kept begun → FlaggedPass passes_none f.lines → HasNoFlags (closed f)
over-no-flags begun f g is before none =
    subst (λ (o : Option Open). HasNoFlags (elim o as (λ _. editor.State) [ None ↦ f | Some h ↦ record f { past = past_of_global h; global = None } ])) (sym is)
    (record { buffer = none; past = past-over begun g before })

pub over-unflagged : (v : Version) (begun f : editor.State) (g : Open) → f.global ≡ Some g → g.before ≡ kept begun → FlaggedPass passes_none f.lines → IsUnflagged v (closed f)
over-unflagged version.One begun f g is before none = tt
over-unflagged version.Two begun f g is before none = over-no-flags begun f g is before none
over-unflagged version.Three begun f g is before none = over-no-flags begun f g is before none

-- OUTSIDE LISTS

-- in an editor that was just opened, also where other lines without the flag are in place of its own
opened-no-flags : (path : Option (List ℕ)) (bytes : List ℕ) (lines : List Line) → unflagged lines ≡ lines →
    HasNoFlags (record (opened path bytes) { lines = lines })
opened-no-flags path bytes lines none =
    record { buffer = subst (λ (ls : List Line). FlaggedPass passes_none ls) none (unflagged-none lines); past = tt }

pub lines-unflagged : (v : Version) (path : Option (List ℕ)) (bytes : List ℕ) (lines : List Line) → unflagged lines ≡ lines → IsUnflagged v (record (opened path bytes) { lines = lines })
lines-unflagged version.One path bytes lines none = tt
lines-unflagged version.Two path bytes lines none = opened-no-flags path bytes lines none
lines-unflagged version.Three path bytes lines none = opened-no-flags path bytes lines none

-- and after a command without a list
pub kept-unflagged : NoFlagsAreKept → (v : Version) (c : Command) (e : editor.State) (given : Option Answer) (o : Outcome) → command e c given ≡ Ok (Makes o) →
    is_global c.verb ≡ false → IsUnflagged v e → IsUnflagged v o.state
kept-unflagged k version.One c e given o is single none = tt
kept-unflagged k version.Two c e given o is single none = k c e given o is single none
kept-unflagged k version.Three c e given o is single none = k c e given o is single none
