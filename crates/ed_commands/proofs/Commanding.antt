-- A command is the naming of its lines, its effect, and its suffix.
use Rattle.std.proofs.Common.{◌≡◌, ◌≢◌, ◌≤◌, ℕ, Bool, true, false, List, ◌++◌, refl, ap, subst, ◌∙◌}
use Rattle.std.specs.Prelude.{Option, Some, None, Result, Ok, Err, IsOkAnd, IsSome, MatchResult, unwrap_or}
use Rattle.ed_base.specs.declared.fault.Fault.{Fault}
use Rattle.ed_base.specs.declared.fault.Fault.TheVariants.{Memory}
use Rattle.ed_syntax.specs.declared.request.Answer.{Answer}
use Rattle.ed_syntax.specs.declared.request.Answer.TheVariants.{Refused}
use Rattle.ed_syntax.specs.Commands as ed
use Rattle.ed_syntax.specs.meaning.States.{State, Kept, kept, last}
use Rattle.ed_syntax.specs.meaning.Values.{◌>>◌}
use Rattle.ed_syntax.specs.meaning.Verbs.{asks}
use Rattle.ed_syntax.specs.meaning.Ranges.{Span}
use Rattle.ed_syntax.specs.meaning.Effects.{Outcome, Effect, Makes, Asks}
use Rattle.ed_syntax.specs.meaning.Applied.{Placed, command, completed, effect_of, placed, settled, suffix_written}
use Rattle.ed_commands.specs.declared.editor.past.Before.{Before}
use Rattle.ed_commands.specs.declared.editor.Reply.TheVariants as reply
use Rattle.ed_commands.specs.Editors.{Leaves, Replies, kept_at, suffixed}
use Rattle.ed_commands.proofs.Kept.{kept-same}

-- a command at the lines that it names
at-lines : (s : State) (c : ed.Command) (p : Placed) (given : Option Answer) → placed c s ≡ Ok p →
    command s c given ≡ (effect_of c.verb c.listed p.span p.target p.state given >> completed c s)
at-lines s c p given h = ap (λ r. r >> λ p. effect_of c.verb c.listed p.span p.target p.state given >> completed c s) h

-- a command whose lines can't be named
pub refused : (s : State) (c : ed.Command) (given : Option Answer) (fault : Fault) → placed c s ≡ Err fault → command s c given ≡ Err fault
refused s c given fault h = ap (λ r. r >> λ p. effect_of c.verb c.listed p.span p.target p.state given >> completed c s) h

-- a command that meets a fault at its lines
pub failed : (s : State) (c : ed.Command) (p : Placed) (given : Option Answer) (fault : Fault) →
    placed c s ≡ Ok p → effect_of c.verb c.listed p.span p.target p.state given ≡ Err fault → command s c given ≡ Err fault
failed s c p given fault h k = at-lines s c p given h ∙ ap (λ r. r >> completed c s) k

-- an answer that isn't asked for isn't looked at
unasked-effect : (verb : ed.Verb) (listed : Bool) (x : Span) (target : ℕ) (s : State) (given : Answer) → (asks verb ≡ true → ⊥) →
    effect_of verb listed x target s (Some given) ≡ effect_of verb listed x target s None
unasked-effect (ed.Append text) listed x target s given unasks = refl
unasked-effect (ed.Change text) listed x target s given unasks = refl
unasked-effect ed.Delete listed x target s given unasks = refl
unasked-effect (ed.Insert text) listed x target s given unasks = refl
unasked-effect ed.Join listed x target s given unasks = refl
unasked-effect (ed.Mark letter) listed x target s given unasks = refl
unasked-effect (ed.Move to) listed x target s given unasks = refl
unasked-effect (ed.Copy to) listed x target s given unasks = refl
unasked-effect (ed.Substitute pattern replacement which form) listed x target s given unasks = refl
unasked-effect ed.LineNumber listed x target s given unasks = refl
unasked-effect ed.Null listed x target s given unasks = refl
unasked-effect (ed.Write form) listed x target s given unasks = refl
unasked-effect (ed.ReadFile path) listed x target s given unasks = absurd (unasks refl)
unasked-effect (ed.WriteFile path) listed x target s given unasks = absurd (unasks refl)
unasked-effect (ed.Edit path) listed x target s given unasks = absurd (unasks refl)
unasked-effect (ed.EditAnyway path) listed x target s given unasks = absurd (unasks refl)
unasked-effect verb listed x target s given unasks = refl

-- so some answer may stand for none
pub any-answer : (verb : ed.Verb) (listed : Bool) (x : Span) (target : ℕ) (s : State) (given : Option Answer) → (asks verb ≡ true → IsSome given) →
    effect_of verb listed x target s (Some (unwrap_or given Refused)) ≡ effect_of verb listed x target s given
any-answer verb listed x target s (Some given) answered = refl
any-answer verb listed x target s None answered =
    unasked-effect verb listed x target s Refused (λ asked. let none : false ≡ true = answered asked in absurd cc)

-- a change of the flags alone leaves what a suffix writes
suffix-settled : (listed : Bool) (before : Kept) (alters : Bool) (s : State) (output : List ℕ) (suffix : Option ed.Form) →
    suffix_written suffix (settled listed before (record { state = s; output = output; alters = alters })) ≡ suffix_written suffix s
suffix-settled listed before true s output None = refl
suffix-settled listed before true s output (Some form) = refl
suffix-settled listed before false s output suffix = refl

-- an outcome with its suffix, by the result of writing it
abbrev completing : ed.Command → State → Outcome → Result (List ℕ) Fault → Result Effect Fault
completing c s o r = r >> λ more. Ok (Makes (record { state = settled c.listed (kept s) o; output = o.output ++ more; alters = o.alters }))

-- output that the suffix came to
told-output : (c : ed.Command) (s new : State) (o : Outcome) (output : List ℕ) (r : Result (List ℕ) Fault) (all : List ℕ) →
    new ≡ settled c.listed (kept s) o → output ≡ o.output → (r >> λ more. Ok (output ++ more)) ≡ Ok all → IsOkAnd (completing c s o r) (Replies s new (reply.Done all))
told-output c s new o output (Ok more) all h k e = (h, cc)
told-output c s new o output (Err fault) all h k e = absurd cc

-- a fault of the suffix
told-fault : (c : ed.Command) (s : State) (o : Outcome) (output : List ℕ) (r : Result (List ℕ) Fault) (fault : Fault) →
    ◌≡◌ {A = Result (List ℕ) Fault} (r >> λ more. Ok (output ++ more)) (Err fault) → completing c s o r ≡ Err fault
told-fault c s o output (Ok more) fault e = absurd cc
told-fault c s o output (Err other) fault e = cc

-- the suffix after an effect that leaves this, in a state that keeps what the command's own keeps
suffix-after : (s t new : State) (c : ed.Command) (b : Before) (effect : Result Effect Fault) (output : List ℕ) (result : Result (List ℕ) Fault) →
    kept_at b.current t ≡ kept s → b.listed ≡ c.listed → IsOkAnd effect (Leaves b t new output) →
    MatchResult result (λ all. suffixed output c.suffix new ≡ Ok all) (λ fault. fault ≢ Memory → suffixed output c.suffix new ≡ Err fault) →
    MatchResult result (λ all. IsOkAnd (effect >> completed c s) (Replies s new (reply.Done all))) (λ fault. fault ≢ Memory → (effect >> completed c s) ≡ Err fault)
suffix-after s t new c b (Err e) output result keeps listed h w = absurd h
suffix-after s t new c b (Ok (Asks r)) output result keeps listed h w = absurd h
suffix-after s t new c b (Ok (Makes o)) output (Ok all) keeps listed h w =
    let left : new ≡ settled c.listed (kept s) o = h.0 ∙ ap (λ l. settled l (kept_at b.current t) o) listed ∙ ap (λ k. settled c.listed k o) keeps in
    let same : suffix_written c.suffix new ≡ suffix_written c.suffix o.state =
    ap (suffix_written c.suffix) left ∙ suffix-settled c.listed (kept s) o.alters o.state o.output c.suffix in
    subst (λ r. IsOkAnd (completing c s o r) (Replies s new (reply.Done all))) same
    (told-output c s new o output (suffix_written c.suffix new) all left h.1 w)
suffix-after s t new c b (Ok (Makes o)) output (Err fault) keeps listed h w = λ other.
    let left : new ≡ settled c.listed (kept s) o = h.0 ∙ ap (λ l. settled l (kept_at b.current t) o) listed ∙ ap (λ k. settled c.listed k o) keeps in
    let same : suffix_written c.suffix new ≡ suffix_written c.suffix o.state =
    ap (suffix_written c.suffix) left ∙ suffix-settled c.listed (kept s) o.alters o.state o.output c.suffix in
    subst (λ r. completing c s o r ≡ Err fault) same (told-fault c s o output (suffix_written c.suffix new) fault (w other))

-- The same of a command. The evaluation of its addresses keeps the lines, so that what undo keeps is told from the current line
-- before it.
pub done : (s new : State) (c : ed.Command) (p : Placed) (b : Before) (given : Option Answer) (output : List ℕ) (result : Result (List ℕ) Fault) →
    p.state.lines ≡ s.lines → b.current ≡ s.current → s.current ≤ last s → b.listed ≡ c.listed →
    placed c s ≡ Ok p → IsOkAnd (effect_of c.verb b.listed p.span p.target p.state given) (Leaves b p.state new output) →
    MatchResult result (λ all. suffixed output c.suffix new ≡ Ok all) (λ fault. fault ≢ Memory → suffixed output c.suffix new ≡ Err fault) →
    MatchResult result (λ all. IsOkAnd (command s c given) (Replies s new (reply.Done all))) (λ fault. fault ≢ Memory → command s c given ≡ Err fault)
done s new c p b given output result same was within listed h k w =
    rw (at-lines s c p given h) (suffix-after s p.state new c b (effect_of c.verb c.listed p.span p.target p.state given) output result
    (kept-same s p.state b.current same was within) listed
    (subst (λ l. IsOkAnd (effect_of c.verb l p.span p.target p.state given) (Leaves b p.state new output)) listed k) w)
