-- Soundness of one command.
use Rattle.std.proofs.Common.{◌≡◌, ℕ, Bool, true, false, List, Option, None, Some, Result, Ok, Err, IfErr, refl, sym, subst}
use Rattle.ed_base.specs.declared.fault.Fault.{Fault}
use Rattle.ed_base.specs.declared.fault.Fault.TheVariants as fault
use Rattle.ed_syntax.specs.declared.request.Answer.{Answer}
use Rattle.ed_syntax.specs.Commands.{Addresses, Command}
use Rattle.ed_syntax.specs.meaning.States as editor
use Rattle.ed_syntax.specs.meaning.Effects.{Outcome, Effect, Makes, Asks}
use Rattle.ed_syntax.specs.meaning.Applied.{command}
use Rattle.ed_syntax.specs.meaning.CommandLaws.{SpansAreInOrder, CommandsKeepMarks, CommandsKeepLines}
use Rattle.ed_syntax.specs.meaning.Values.{◌>>◌}
use Rattle.ed_syntax.specs.meaning.Verbs.{takes, given_or}
use Rattle.ed_rules.specs.declared.known_matches.Matches.{Matches}
use Rattle.ed_rules.specs.declared.state.State.{State}
use Rattle.ed_rules.specs.Pieces.{needing}
use Rattle.ed_rules.specs.Addresses.{standing}
use Rattle.ed_syntax.specs.spelling.Readable.{enters_lines}
use Rattle.ed_rules.specs.Rules.{step_at, step, fault_of}
use Rattle.ed_rules.specs.Soundness.{IsUnserved, IsDone, CommandIsSound}
use Rattle.ed_rules.specs.Matching.{saying}
use Rattle.ed_rules.specs.StandsFor.{StandsFor}
use Rattle.ed_rules.specs.facts.Facts.{Facts}
use Rattle.ed_rules.proofs.sound.Answering.{Does, Comes}
use Rattle.ed_rules.proofs.sound.Standing.{Stands-matching}
use Rattle.ed_rules.proofs.matches.MatchedPhases.{Tells, Holds, step-told}
use Rattle.ed_rules.proofs.matches.Aside.{step_aside, Beside, step_at-beside}
use Rattle.ed_rules.proofs.sound.Commanding.{phases_sound}
use Rattle.ed_rules.proofs.sound.FactsPhases.{FactsRead, step-facts}
use Rattle.ed_rules.proofs.sound.Lettered.{LeavesLettered, command-lettered}
use Rattle.ed_rules.proofs.sound.Asking as asking
use Rattle.ed_rules.proofs.sound.Asking.{may-ask, is-unserved}

-- the laws of commands that this rests on
pub record Laws : Type 0 where
  pub answers : asking.Laws
  pub order : SpansAreInOrder
  pub marks : CommandsKeepMarks
  pub lines : CommandsKeepLines

-- a text that holds a newline is refused by the rule
abbrev Entered : Command → Type 0
Entered c = enters_lines c.verb ≡ true

-- what is known of matches and of single lines makes no difference to what a command does
matching-does : (given : Option Answer) (t : State) (m : Matches) (facts : Facts) (y : Result Effect Fault) → Does Comes given (Ok t) y →
    Does Comes given (Ok (saying m facts t)) y
matching-does given t m facts (Ok (Makes o)) h = Stands-matching t o.state m facts h
matching-does given t m facts (Ok (Asks r)) h = tt
matching-does given t m facts (Err f) h = h

does-beside : (given : Option Answer) (x y : Result State Fault) (z : Result Effect Fault) → Beside x y → Does Comes given x z → Does Comes given y z
does-beside given (Ok t) (Ok u) z b h = subst (λ (v : State). Does Comes given (Ok v) z) (sym b.2) (matching-does given t b.0 b.1 z h)
does-beside given (Ok t) (Err g) z b h = absurd b
does-beside given (Err f) (Ok u) z b h = absurd b
does-beside given (Err f) (Err g) z b h = tt

step-does : SpansAreInOrder → (watched : List (List ℕ)) (c : Command) (s : State) (e : editor.State) (given : Option Answer) → StandsFor s e →
    Does Comes given (step watched c s) (command e c given)
step-does order watched c s e given st =
    let a : Addresses = given_or c.addresses (standing (takes c.verb).default) in
    elim (enters_lines c.verb) as (λ b. Does Comes given (needing b fault.Syntax s >> step_at watched a c) (command e c given)) [
      | true ↦ does-beside given (step_aside a c s) (step_at watched a c s) (command e c given) (step_at-beside watched a c s)
          (phases_sound order c s e given st.lines (st.numbers, st.stands, st.facts) st.matches.0)
      | false ↦ tt
    ]

entered-by : (b : Bool) (s t : State) (k : State → Result State Fault) → needing b fault.Syntax s >> k ≡ Ok t → b ≡ true
entered-by true s t k is = refl
entered-by false s t k is = absurd cc

entered : (watched : List (List ℕ)) (c : Command) (s t : State) → step watched c s ≡ Ok t → Entered c
entered watched c s t is = entered-by (enters_lines c.verb) s t (step_at watched (given_or c.addresses (standing (takes c.verb).default)) c) is

-- without an answer there is no fault
never-fails : (t : State) (y : Result Effect Fault) (f : Fault) → Does Comes None (Ok t) y → y ≡ Err f → ⊥
never-fails t (Err g) f h is = h
never-fails t (Ok (Makes o)) f h is = absurd cc
never-fails t (Ok (Asks r)) f h is = absurd cc

module _ (k : Laws) (watched : List (List ℕ)) (c : Command) (s t : State) (e : editor.State) (st : StandsFor s e) (is : step watched c s ≡ Ok t) where
  does : (given : Option Answer) → Does Comes given (Ok t) (command e c given)
  does given = subst (λ (x : Result State Fault). Does Comes given x (command e c given)) is (step-does k.order watched c s e given st)

  fails-well : (given : Option Answer) (f : Fault) → Does Comes given (Ok t) (Err f) → command e c given ≡ Err f → IsUnserved c e given f
  fails-well None f h same = h
  fails-well (Some a) f h same = is-unserved k.answers c e a f (λ g. never-fails t (command e c None) g (does None)) h same

  done-by : (given : Option Answer) (y : Result Effect Fault) → command e c given ≡ y → Does Comes given (Ok t) y →
      ((o : Outcome) → y ≡ Ok (Makes o) → LeavesLettered o) → Tells Holds (Ok t) y → Tells FactsRead (Ok t) y → IsDone c s t e given y
  done-by given (Err f) same h l m read = fails-well given f h same
  done-by given (Ok (Asks r)) same h l m read = may-ask k.answers c s e given r st.stands.remembered.2 same
  done-by given (Ok (Makes o)) same h l m read =
      let left = l o refl in
      record { numbers = h.0; stands = h.1; lines = left.0; kept = left.1; matches = m; facts = read h.0 h.1.buffer.reads }

pub command_sound : Laws → CommandIsSound
command_sound k watched c s t e given st is =
    done-by k watched c s t e st is given (command e c given) refl (does k watched c s t e st is given)
    (λ o makes. command-lettered k.marks k.lines c e given o makes (entered watched c s t is) st.lines st.kept)
    (step-told watched c s t e given st is) (step-facts k.order watched c s t e given st is)

-- where the needs hold, the command meets no fault but that of a file
fault-unserved : (c : Command) (s t : State) (e : editor.State) (given : Option Answer) (y : Result Effect Fault) → IsDone c s t e given y → IfErr y (IsUnserved c e given)
fault-unserved c s t e given (Err f) h = h
fault-unserved c s t e given (Ok f) h = tt

value-of : (x : Result State Fault) → fault_of x ≡ None → (t : State) × (x ≡ Ok t)
value-of (Err f) h = absurd cc
value-of (Ok t) h = (t, refl)

pub needs-met : CommandIsSound → (watched : List (List ℕ)) (c : Command) (s : State) (e : editor.State) (given : Option Answer) → fault_of (step watched c s) ≡ None →
    StandsFor s e → IfErr (command e c given) (IsUnserved c e given)
needs-met sound watched c s e given h st =
    let v = value-of (step watched c s) h in
    fault-unserved c s v.0 e given (command e c given) (sound watched c s v.0 e given st v.1)
