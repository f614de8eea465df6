-- Evaluated addresses change the current line and the remembered pattern at most.
use Rattle.std.proofs.Common.{◌≡◌, ℕ, List, [], ◌∷◌, Option, Some, None, Ok, refl, ap, ◌∙◌}
use Rattle.ed_syntax.specs.Commands as ed
use Rattle.ed_syntax.specs.Commands.{Address, Addresses, Command}
use Rattle.ed_syntax.specs.meaning.States.{State, last}
use Rattle.ed_syntax.specs.meaning.Values.{value, evaluated, moved, values}
use Rattle.ed_syntax.specs.meaning.Verbs.{takes, given_or}
use Rattle.ed_syntax.specs.meaning.Ranges.{spanned}
use Rattle.ed_syntax.specs.meaning.Applied.{targeted, placed}
use Rattle.ed_commands.specs.Editors.{EditorValue, placed_value}
use Rattle.ed_commands.specs.declared.editor.addressing.Addressed.{Addressed}
use Rattle.ed_syntax.proofs.meaning.FaultSteps.{Gives, gives, bind-gives, bind-any}

-- a state with the current line and the pattern of another
abbrev pub back_at : State → State → State
back_at s t = record t { current = s.current; pattern = s.pattern }

-- the other one is what this was before
abbrev pub Backs : State → State → Type 0
Backs s t = back_at s t ≡ s

backs-more : (s t u : State) → Backs s t → Backs t u → Backs s u
backs-more s t u first later = ap (back_at s) later ∙ first

values-back : (a : Addresses) (s : State) → Gives (λ v. Backs s v.0) (values a s)
values-back ed.Without s = gives (λ v. Backs s v.0) (s, []) refl
values-back (ed.One a) s = bind-any (λ v. Backs s v.0) (value a s) _ (λ n. gives (λ v. Backs s v.0) (evaluated a s, n ∷ []) refl)
values-back (ed.Comma a b) s =
    bind-any (λ v. Backs s v.0) (value a s) _ (λ n.
    bind-any (λ v. Backs s v.0) (value b (evaluated a s)) _ (λ m.
    gives (λ v. Backs s v.0) (evaluated b (evaluated a s), n ∷ m ∷ []) refl))
values-back (ed.Semicolon a None) s =
    bind-any (λ v. Backs s v.0) (value a s) _ (λ n. gives (λ v. Backs s v.0) (moved n (evaluated a s), n ∷ n ∷ []) refl)
values-back (ed.Semicolon a (Some b)) s =
    bind-any (λ v. Backs s v.0) (value a s) _ (λ n.
    bind-any (λ v. Backs s v.0) (value b (moved n (evaluated a s))) _ (λ m.
    gives (λ v. Backs s v.0) (evaluated b (moved n (evaluated a s)), n ∷ m ∷ []) refl))

targeted-back : (a : Option Address) (s : State) → Gives (λ t. Backs s t.0) (targeted a s)
targeted-back None s = gives (λ t. Backs s t.0) (s, 0) refl
targeted-back (Some a) s = bind-any (λ t. Backs s t.0) (value a s) _ (λ n. gives (λ t. Backs s t.0) (evaluated a s, n) refl)

-- so it is of all addresses of a command
pub placed-back : (c : Command) (s : State) → Gives (λ p. Backs s p.state) (placed c s)
placed-back c s =
    bind-gives (λ v. Backs s v.0) (λ p. Backs s p.state) (values (given_or c.addresses (takes c.verb).default) s) _
    (values-back (given_or c.addresses (takes c.verb).default) s) (λ v first.
    bind-gives (λ t. Backs v.0 t.0) (λ p. Backs s p.state) (targeted (takes c.verb).target v.0) _ (targeted-back (takes c.verb).target v.0) (λ t later.
    bind-any (λ p. Backs s p.state) (spanned (takes c.verb).taking (last s) v.1) _ (λ x.
    gives (λ p. Backs s p.state) (record { state = t.0; span = x; target = t.1 }) (backs-more s v.0 t.0 first later))))

-- an editor with this current line and this pattern
abbrev pub put_back : (current : ℕ) → (pattern : Option (List ℕ)) → EditorValue → EditorValue
put_back current pattern e = record { state = record e.state { current = current; pattern = pattern }; failed = e.failed }

-- once these are put back, nothing has changed
pub unplaced : (c : Command) (old new : EditorValue) (a : Addressed) (current : ℕ) (pattern : Option (List ℕ)) →
    placed c old.state ≡ Ok (placed_value new.state a) → current ≡ old.state.current → pattern ≡ old.state.pattern → new.failed ≡ old.failed →
    put_back current pattern new ≡ old
unplaced c old new a current pattern named at was failed =
    ap (λ n. put_back n pattern new) at
    ∙ ap (λ p. put_back old.state.current p new) was
    ∙ ap (λ s. (let v : EditorValue = record { state = s; failed = new.failed } in v)) (placed-back c old.state (placed_value new.state a) named)
    ∙ ap (λ f. (let v : EditorValue = record { state = old.state; failed = f } in v)) failed
