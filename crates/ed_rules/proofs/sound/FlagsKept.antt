-- Commands give no line the flag, and leave the bytes of those that have it.
use Rattle.std.proofs.Common.{◌≡◌, ℕ, ◌+◌, Bool, true, false, cond, List, [], ◌∷◌, map, Option, None, Some, option_map, refl, ◌∙◌, sym, ap, subst}
use Rattle.std.specs.List.{position_from}
use Rattle.std.proofs.lemmas.Iterator.Adapters.{position_from-zero}
use Rattle.std.proofs.lemmas.Bool.{false≢true}
use Rattle.std.proofs.lemmas.List.Elements.{All-nil, All-cons}
use Rattle.ed_base.specs.Buffer.{Line, plain_line, with_flag, flagged_place}
use Rattle.ed_syntax.specs.declared.command.Sense.{Sense}
use Rattle.ed_syntax.specs.Commands as ed
use Rattle.ed_syntax.specs.Commands.{Verb, Command}
use Rattle.ed_syntax.specs.meaning.States as editor
use Rattle.ed_syntax.specs.meaning.States.{Past, Nothing, Same, Was}
use Rattle.ed_syntax.specs.meaning.Values.{matches}
use Rattle.ed_syntax.specs.meaning.Verbs.{is_global, may_be_listed}
use Rattle.ed_syntax.specs.meaning.Globals.{wanted, flagged_line, taken_at, next_taken}
use Rattle.ed_syntax.specs.meaning.CommandLaws.{OfPast}
use Rattle.ed_syntax.proofs.meaning.EachLine.{IsKeptOfEach, Uses}
use Rattle.ed_syntax.proofs.meaning.CommandSteps.{in-list, commands-keep-each, lists-keep-each}
use Rattle.ed_rules.specs.GlobalSoundness.{FlaggedPass, is_taken_by, passes_none, FlagsAreKept, NoFlagsAreKept, TakenHaveFlags, NoneAreLeft}

-- a line passes where it has no flag, or its bytes pass
abbrev Passes : (List ℕ → Bool) → Line → Type 0
Passes test line = line.flag ≡ true → test line.bytes ≡ true

-- where that which a global command flags passes, a command keeps what passes
module _ (test : List ℕ → Bool) where
  no-flag : (line : Line) → line.flag ≡ false → Passes test line
  no-flag line off on = absurd (false≢true (sym off ∙ on))

  plain-pass : (texts : List (List ℕ)) → FlaggedPass test (map plain_line texts)
  plain-pass [] = All-nil (Passes test)
  plain-pass (t ∷ texts) = All-cons (Passes test) (plain_line t) (map plain_line texts) (no-flag (plain_line t) refl) (plain-pass texts)

  pass-kept : (verb : Verb) → ((which : Sense) (own : Option (List ℕ)) (text : List ℕ) → verb ≡ ed.Global which own → Uses own text → (line : Line) →
      Passes test line → Passes test (flagged_line which text line)) → IsKeptOfEach verb (Passes test)
  pass-kept verb flagged = record {
    plain = λ bytes is. no-flag (plain_line bytes) refl;
    entered = λ xs texts lines h. plain-pass texts;
    lettered = λ letter marks line h. h;
    unflagged = λ line h. no-flag (with_flag false line) refl;
    flagged = flagged;
  }

pub flags-kept : FlagsAreKept
flags-kept test c e given o is listed h =
    lists-keep-each (Passes test) e c given o is listed
    (pass-kept test c.verb (λ which own text global. absurd (false≢true (sym (ap may_be_listed global) ∙ (in-list c listed).1)))) h

pub no-flags-kept : NoFlagsAreKept
no-flags-kept c e given o is single h =
    commands-keep-each (Passes passes_none) e c given o is
    (pass-kept passes_none c.verb (λ which own text global. absurd (false≢true (sym single ∙ ap is_global global)))) h

-- THE LINES THAT ARE TAKEN

taken-pass : (which : Sense) (own : Option (List ℕ)) (text : List ℕ) → Uses own text → (line : Line) →
    Passes (is_taken_by (ed.Global which own)) (flagged_line which text line)
taken-pass which (Some own) text uses line = λ on. subst (λ (t : List ℕ). wanted which (matches t line.bytes) ≡ true) (sym uses) on
taken-pass which None text uses line = λ on. refl

-- where no line has the flag, each that has it passes any test
none-pass : (test : List ℕ → Bool) (lines : List Line) → FlaggedPass passes_none lines → FlaggedPass test lines
none-pass test lines h = λ place d l on. absurd (false≢true (h place d l on))

past-none : (test : List ℕ → Bool) (past : Past) → OfPast (FlaggedPass passes_none) past → OfPast (FlaggedPass test) past
past-none test Nothing h = tt
past-none test Same h = tt
past-none test (Was before) h = none-pass test before.lines h

pub taken-have-flags : TakenHaveFlags
taken-have-flags c e given o is global h =
    let test : List ℕ → Bool = is_taken_by c.verb in
    (commands-keep-each (Passes test) e c given o is
    (pass-kept test c.verb (λ which own text is uses line h. subst (λ (v : Verb). Passes (is_taken_by v) (flagged_line which text line)) (sym is) (taken-pass which own text uses line)))
    (record { buffer = none-pass test e.lines h.buffer; past = past-none test e.past h.past })).buffer

-- NO LINE IS LEFT

none-from : (i : ℕ) (ls : List Line) → position_from (λ (line : Line). line.flag) i ls ≡ None → FlaggedPass passes_none ls
none-from i [] h = All-nil (Passes passes_none)
none-from i (l ∷ ls) h =
    (elim l.flag as (λ b. l.flag ≡ b → cond b (Some i) (position_from (λ (line : Line). line.flag) (i + 1) ls) ≡ None → FlaggedPass passes_none (l ∷ ls)) [
      | true ↦ λ e k. absurd cc
      | false ↦ λ e k. All-cons (Passes passes_none) l ls (no-flag passes_none l e) (none-from (i + 1) ls k)
    ]) refl h

place-none : (f : editor.State) (p : Option ℕ) → option_map (taken_at f) p ≡ None → p ≡ None
place-none f None is = refl
place-none f (Some place) is = absurd cc

pub none-taken : NoneAreLeft
none-taken f is = none-from 0 f.lines (sym (position_from-zero (λ (line : Line). line.flag) f.lines) ∙ place-none f (flagged_place f.lines) is)
