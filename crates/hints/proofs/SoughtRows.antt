-- Worked rows of what the searches of a command look for, and of what is to be stated.
use Rattle.std.specs.Prelude.{◌≡◌, ℕ, List, refl, true, false, [], ◌∷◌, Some, None, codes}
use Rattle.ed_base.specs.declared.fault.Fault.TheVariants as fault
use Rattle.ed_syntax.specs.Commands as ed
use Rattle.ed_syntax.specs.Commands.{Address, Addresses, One, Comma, Semicolon, Command, Script, at_base}
use Rattle.ed_rules.specs.declared.state.State.{State}
use Rattle.cert_check.specs.declared.checker.verdict.Place.{Place}
use Rattle.cert_check.specs.Certificates.{Note}
use Rattle.hints.specs.Sought.{searches, looked_for, remembered, unmatched, known_at, to_state, is_hidden, is_shown}
use Rattle.hints.proofs.Worked.{Row, row}

abbrev forward : List ℕ → Address
forward pattern = at_base (ed.Forward (Some pattern))

abbrev again : Address
again = at_base (ed.Forward None)

-- `d` with these addresses
abbrev delete : Addresses → Command
delete addresses = record { addresses = addresses; verb = ed.Delete; suffix = None; listed = false }

searches_and_bounds : List Row
unfolding is_hidden
searches_and_bounds =
    -- the target of `m` is searched for last, and a line by its number by no search
    row (searches (record { addresses = Semicolon (forward (codes "a")) (Some again); verb = ed.Move (at_base (ed.Backward (Some (codes "b")))); suffix = None; listed = false })
    ≡ Some (codes "a") ∷ None ∷ Some (codes "b") ∷ []) refl  -- two searches and a target
    ∷ row (searches (delete (Comma (at_base (ed.Number 1)) (forward (codes "a")))) ≡ Some (codes "a") ∷ []) refl  -- a number is no search
    -- `//` looks for the pattern of the search before it, and without one for each that may be remembered
    ∷ row (looked_for (codes "x" ∷ []) (Some (codes "a") ∷ None ∷ []) ≡ (codes "a" ∷ []) ∷ (codes "a" ∷ []) ∷ []) refl  -- own pattern is remembered
    ∷ row (looked_for (codes "x" ∷ codes "y" ∷ []) (None ∷ []) ≡ (codes "x" ∷ codes "y" ∷ []) ∷ []) refl  -- each remembered one is looked for
    -- that none may be remembered adds no pattern
    ∷ row ((s : State) → remembered (record s { patterns = None ∷ Some (codes "x") ∷ [] }) ≡ codes "x" ∷ []) (λ s. refl)  -- none is no pattern
    -- what some line is known to match needn't be stated, nor what every line matches
    ∷ row ((s : State) → unmatched (delete (Comma (forward (codes "a")) (forward (codes "b")))) (record s { matches = record s.matches { has = codes "a" ∷ [] }; follows = false }) ≡ codes "b" ∷ []) (λ s. refl)  -- matched one is left out
    ∷ row ((s : State) → unmatched (delete (One (forward (codes "x*")))) (record s { matches = record s.matches { has = [] }; follows = false }) ≡ []) (λ s. refl)  -- always matched one is left out
    ∷ row ((s : State) → unmatched (delete (Comma (forward (codes "a")) again)) (record s { matches = record s.matches { has = [] }; follows = false }) ≡ codes "a" ∷ []) (λ s. refl)  -- twice the same is stated once
    ∷ row ((s : State) → unmatched (delete (One (forward (codes "a")))) (record s { matches = record s.matches { has = [] }; follows = true; facts = record { lines = record { name = 6; pattern = codes "a"; matches = true } ∷ []; clear = [] } }) ≡ []) (λ s. refl)  -- followed one is left out
    -- of a list what is known before the last command that was noted
    ∷ row ((s t u v : State) → known_at (record { command = 1; inner = Some 2 }) (record { state = s; looped = Some (record { invariant = t; inner = u ∷ v ∷ [] }) } ∷ []) ≡ Some v) (λ s t u v. refl)  -- second of a list
    ∷ row ((s t : State) → known_at (record { command = 1; inner = None }) (record { state = s; looped = None } ∷ record { state = t; looped = None } ∷ []) ≡ Some s) (λ s t. refl)  -- first of two commands
    -- another fault than that of a search asks for no pattern
    ∷ row ((script : Script) (place : Place) (notes : List Note) → to_state script place fault.Syntax notes ≡ []) (λ script place notes. refl)  -- syntax asks for none
    -- a tab is shown, an escape, a newline and what nobody can see aren't
    ∷ row (is_shown 9 ≡ true) refl  -- tab is shown
    ∷ row (is_shown 27 ≡ false) refl  -- escape is not shown
    ∷ row (is_shown 10 ≡ false) refl  -- newline is not shown
    ∷ row (is_shown 160 ≡ false) refl  -- no-break space is not shown
    ∷ row (is_shown 8238 ≡ false) refl  -- mark that turns the order is not shown
    ∷ row (is_shown 233 ≡ true) refl  -- letter with an accent is shown
    ∷ []
