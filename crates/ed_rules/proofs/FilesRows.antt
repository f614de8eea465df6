-- Worked rows of the commands on files.
use Rattle.std.specs.Prelude.{◌≡◌, refl, true, [], ◌∷◌, Some, None, Ok, Err, codes, List}
use Rattle.ed_base.specs.declared.fault.Fault.TheVariants as fault
use Rattle.ed_syntax.specs.Commands as ed
use Rattle.ed_rules.specs.declared.state.State.{State}
use Rattle.ed_rules.specs.States.{unchanged, changed}
use Rattle.ed_rules.specs.Files.{named, named_first, named_anew, filled, file_written, written_paths, saved, edited}
use Rattle.ed_rules.proofs.Worked.{Row, row}

file_commands : List Row
unfolding filled
file_commands =
    -- without a path one has to be remembered, whatever else may be
    row ((s : State) → named None (record s { names = None ∷ Some (codes "F") ∷ [] }) ≡ Err fault.Name) (λ s. refl)  -- name may be missing
    ∷ row ((s : State) → named None (record s { names = Some (codes "F") ∷ [] }) ≡ Ok (record s { names = Some (codes "F") ∷ [] })) (λ s. refl)  -- name is remembered
    ∷ row ((s : State) → named (Some (codes "F")) s ≡ Ok s) (λ s. refl)  -- name is given
    -- `r` and `w` put a path in place of none, `e` and `f` in place of all
    ∷ row (filled (codes "G") (None ∷ Some (codes "F") ∷ []) ≡ Some (codes "F") ∷ Some (codes "G") ∷ []) refl  -- none becomes the path
    ∷ row ((s : State) → (named_first (Some (codes "G")) (record s { names = Some (codes "F") ∷ [] })).names ≡ Some (codes "F") ∷ []) (λ s. refl)  -- a path stays
    ∷ row ((s : State) → (named_anew (Some (codes "G")) s).names ≡ Some (codes "G") ∷ []) (λ s. refl)  -- path becomes the only one
    -- `w` of all lines saves the buffer, and may write each path that may be remembered
    ∷ row ((s : State) → file_written ed.Without (Some (codes "F")) (record s { names = Some (codes "F") ∷ []; changed = changed }) ≡ Ok (record s { names = Some (codes "F") ∷ []; changed = unchanged })) (λ s. refl)  -- all lines are saved
    ∷ row ((s : State) → written_paths (ed.WriteFile None) (record s { names = Some (codes "F") ∷ Some (codes "G") ∷ [] }) ≡ Some (codes "F") ∷ Some (codes "G") ∷ []) (λ s. refl)  -- remembered paths are written
    ∷ row ((s : State) → written_paths (ed.WriteFile (Some (codes "F"))) s ≡ Some (codes "F") ∷ []) (λ s. refl)  -- the given path is written
    -- `q` and `e` need a saved buffer
    ∷ row ((s : State) → saved (record s { changed = record { no = true; yes = true } }) ≡ Err fault.Unsaved) (λ s. refl)  -- changes may be unsaved
    ∷ row ((s : State) → saved (record s { changed = unchanged }) ≡ Ok (record s { changed = unchanged })) (λ s. refl)  -- changes are saved
    ∷ row ((s : State) → edited (Some (codes "F")) (record s { changed = changed }) ≡ Err fault.Unsaved) (λ s. refl)  -- edit of unsaved changes
    -- the name is looked for before the changes
    ∷ row ((s : State) → edited None (record s { names = None ∷ []; changed = changed }) ≡ Err fault.Name) (λ s. refl)  -- edit without a name
    ∷ []
