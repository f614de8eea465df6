-- What holds of writes that are held back from call to call, and the calls that end a run.
use Rattle.std.specs.Prelude.{ℕ, ◌≡◌, ◌≤◌, ◌*◌, Bool, true, false, nat_lt, List, [], ◌∷◌, ◌++◌, length, map, take, drop, slice_index_or}
use Rattle.std.proofs.Props.{props}
use Rattle.whole.specs.Deeds.{Deed, NothingPut, refusals, run_log}
use Rattle.whole.specs.Paths.{written_paths}
use Rattle.whole.specs.Reads.{ReadsHeld}
use Rattle.whole.specs.OneFile.{AreDifferent}
use Rattle.whole.specs.declared.file_identity.FileIdentity.{FileIdentity}
use Rattle.whole.specs.declared.outcome.Outcome.{Outcome}
use Rattle.whole.specs.declared.outcome.Outcome.TheVariants as outcome

-- Writes that are held back: the paths that were written, whether a request was refused, and room in the log to end the run, with four
-- calls for each path.
pub record IsWhole (deeds : List Deed) (room : ℕ) (paths : List (List ℕ)) (refused : Bool) : Type 0 where
  pub unput : NothingPut deeds
  pub reads : ReadsHeld deeds
  pub paths_are : paths ≡ written_paths deeds
  pub room_for_end : 4 * length paths ≤ room
  pub refused_is : refused ≡ nat_lt 0 (refusals (run_log deeds))

-- these facts have one proof at most
pub IsWhole-prop : (deeds : List Deed) (room : ℕ) (paths : List (List ℕ)) (refused : Bool) →
    IsProp (IsWhole deeds room paths refused)
IsWhole-prop deeds room paths refused = Prim.hlevel props

-- the calls that make drafts ready at the end of a run
abbrev pub ready_deeds : Outcome → List (List ℕ) → List Deed
ready_deeds outcome.Put paths = map (λ path. Deed.Ready path true) paths
ready_deeds outcome.Discarded paths = []
ready_deeds (outcome.Unready place) paths =
    map (λ path. Deed.Ready path true) (take place paths) ++ Deed.Ready (slice_index_or paths place []) false ∷ []
ready_deeds (outcome.Stopped place) paths = map (λ path. Deed.Ready path true) paths

-- the calls that put drafts
abbrev pub put_deeds : Outcome → List (List ℕ) → List Deed
put_deeds outcome.Put paths = map (λ path. Deed.Put path true) paths
put_deeds outcome.Discarded paths = []
put_deeds (outcome.Unready place) paths = []
put_deeds (outcome.Stopped place) paths =
    map (λ path. Deed.Put path true) (take place paths) ++ Deed.Put (slice_index_or paths place []) false ∷ []

-- the calls that discard drafts
abbrev pub discard_deeds : Outcome → List (List ℕ) → List Deed
discard_deeds outcome.Put paths = []
discard_deeds outcome.Discarded paths = map (λ path. Deed.Discard path) paths
discard_deeds (outcome.Unready place) paths = map (λ path. Deed.Discard path) paths
discard_deeds (outcome.Stopped place) paths = map (λ path. Deed.Discard path) (drop place paths)

-- the calls that settle what was put
abbrev pub settle_deeds : Outcome → List (List ℕ) → List Deed
settle_deeds outcome.Put paths = map (λ path. Deed.Settle path) paths
settle_deeds outcome.Discarded paths = []
settle_deeds (outcome.Unready place) paths = []
settle_deeds (outcome.Stopped place) paths = map (λ path. Deed.Settle path) (take place paths)

-- the calls that end a run
abbrev pub last_deeds : Outcome → List (List ℕ) → List Deed
last_deeds ended paths =
    ready_deeds ended paths ++ (put_deeds ended paths ++ (settle_deeds ended paths ++ discard_deeds ended paths))

-- that files are different has one proof at most
pub AreDifferent-prop : (files : List FileIdentity) → IsProp (AreDifferent files)
AreDifferent-prop [] = Prim.hlevel props
AreDifferent-prop (file ∷ files) = Prim.hlevel (props, AreDifferent-prop files)
