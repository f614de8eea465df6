-- Why the rules of a global command may be trusted, part by part: its start, the line that is taken, its end.
use Rattle.std.specs.Prelude.{◌≡◌, ℕ, Bool, true, false, List, Option, Some, None, Ok, IsTrue, All}
use Rattle.ed_base.specs.Buffer.{Line}
use Rattle.ed_syntax.specs.declared.request.Answer.{Answer}
use Rattle.ed_syntax.specs.Commands as ed
use Rattle.ed_syntax.specs.Commands.{Verb, Command, Step}
use Rattle.ed_syntax.specs.meaning.Verbs.{is_global, is_listed}
use Rattle.ed_syntax.specs.meaning.States as editor
use Rattle.ed_syntax.specs.meaning.States.{Kept, Open, kept}
use Rattle.ed_syntax.specs.meaning.Values.{matches}
use Rattle.ed_syntax.specs.meaning.Effects.{Outcome, Makes}
use Rattle.ed_syntax.specs.meaning.Globals.{wanted, opened, next_taken, closed}
use Rattle.ed_syntax.specs.meaning.Applied.{command}
use Rattle.ed_syntax.specs.meaning.CommandLaws.{OfLines}
use Rattle.ed_rules.specs.declared.state.State.{State}
use Rattle.ed_rules.specs.StandsFor.{StandsFor}
use Rattle.ed_rules.specs.Rules.{step}
use Rattle.ed_rules.specs.Globals.{list_may_alter}

-- the state of a global command's rule stands for the editor that has flagged its lines and begins with its list
abbrev pub StartIsSound : Type 0
StartIsSound = (watched : List (List ℕ)) (c : Command) (s t : State) (e : editor.State) (given : Option Answer) (o : Outcome) (before : Kept) → StandsFor s e → step watched c s ≡ Ok t →
    command e c given ≡ Ok (Makes o) → StandsFor t (opened before o.state)

-- each line that has the flag passes a test of its bytes
abbrev pub FlaggedPass : (test : List ℕ → Bool) → List Line → Type 0
FlaggedPass test lines = All (λ line. line.flag ≡ true → test line.bytes ≡ true) lines

-- a line that `g` takes for a given pattern matches it, one that `v` takes doesn't; of a pattern that isn't given nothing is said
abbrev pub is_taken_by : Verb → List ℕ → Bool
is_taken_by (ed.Global which (Some text)) bytes = wanted which (matches text bytes)
is_taken_by verb bytes = true

-- no bytes pass
abbrev pub passes_none : List ℕ → Bool
passes_none bytes = false

-- no line has the flag, and none of those that undo would bring back
abbrev pub HasNoFlags : editor.State → Type 0
HasNoFlags e = OfLines (FlaggedPass passes_none) e

-- A command of a list gives no line the flag, and leaves the bytes of those that have it: what passes a test goes on to pass it.
abbrev pub FlagsAreKept : Type 0
FlagsAreKept = (test : List ℕ → Bool) (c : Command) (e : editor.State) (given : Option Answer) (o : Outcome) → command e c given ≡ Ok (Makes o) → IsTrue (is_listed c) →
    FlaggedPass test e.lines → FlaggedPass test o.state.lines

-- where no line has the flag, none has it after a command that has no list
abbrev pub NoFlagsAreKept : Type 0
NoFlagsAreKept = (c : Command) (e : editor.State) (given : Option Answer) (o : Outcome) → command e c given ≡ Ok (Makes o) → is_global c.verb ≡ false →
    HasNoFlags e → HasNoFlags o.state

-- and one that has a list gives it to the lines that it takes
abbrev pub TakenHaveFlags : Type 0
TakenHaveFlags = (c : Command) (e : editor.State) (given : Option Answer) (o : Outcome) → command e c given ≡ Ok (Makes o) → is_global c.verb ≡ true →
    HasNoFlags e → FlaggedPass (is_taken_by c.verb) o.state.lines

-- where no line is taken next, none has the flag
abbrev pub NoneAreLeft : Type 0
NoneAreLeft = (e : editor.State) → next_taken e ≡ None → FlaggedPass passes_none e.lines

-- where the invariant stands for the editor, the list's first state stands for it once the next line is taken
abbrev pub TurnIsSound : Verb → (invariant entry : State) → Type 0
TurnIsSound verb invariant entry = (e f : editor.State) → StandsFor invariant e → FlaggedPass (is_taken_by verb) e.lines → next_taken e ≡ Some f → StandsFor entry f

-- Where it is known that one line alone is taken: a global command leaves an editor that the invariant stands for as its list begins. Then a
-- line is taken, the list's first state stands for the editor with it, and no other line has the flag.
abbrev pub OnceIsSound : Command → (invariant entry : State) → Type 0
OnceIsSound c invariant entry = (e : editor.State) (given : Option Answer) (o : Outcome) (before : Kept) → HasNoFlags e → command e c given ≡ Ok (Makes o) →
    StandsFor invariant (opened before o.state) → (f : editor.State) × (next_taken (opened before o.state) ≡ Some f) × StandsFor entry f × FlaggedPass passes_none f.lines

-- Where one state stands for the editor before a global command and the invariant for it after the last line, the state at the end
-- stands for it once the global command is over; a change is known only where a command of the list may make one.
abbrev pub EndIsSound : Step → (before invariant end : State) → Type 0
EndIsSound x before invariant end = (e f : editor.State) (g : Open) → StandsFor before e → StandsFor invariant f → f.global ≡ Some g → g.before ≡ kept e →
    (g.altered ≡ true → list_may_alter x.list ≡ true) → StandsFor end (closed f)
