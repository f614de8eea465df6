-- Which files drafts are of, or are to be of (our choice: a file is told by the numbers of its device and of itself; one that isn't there by those of its
-- folder and by its name in it).
use Rattle.std.specs.Prelude.{ℕ, ◌≢◌, true, false, List, [], ◌∷◌, All, map, nat_eq, string_bytes, Option, Some, None}
use Rattle.std.specs.Cmp.Lexicographic.{pointwise}
use Rattle.whole.specs.declared.file_identity.FileIdentity.{FileIdentity}
use Rattle.whole.specs.declared.backup.Backup.{Backup}
use Rattle.whole.specs.declared.beside.Beside.{Beside}
use Rattle.whole.specs.declared.planned.Planned.{Planned}

-- the files that drafts are of, as the system told of them when the drafts were made
abbrev pub files_of : List Beside → List FileIdentity
files_of drafts = map (λ draft. draft.file) drafts

-- the draft of a path, if there is one
abbrev pub draft_at : List ℕ → List Beside → Option Beside
draft_at path [] = None
draft_at path (draft ∷ drafts) = elim (pointwise nat_eq (string_bytes draft.path) path) [ true ↦ Some draft | false ↦ draft_at path drafts ]

-- the paths that were looked at and could be replaced
abbrev pub planned_paths : List Planned → List (List ℕ)
planned_paths planned = map (λ one. string_bytes one.path) planned

-- the files that are to be replaced at these paths, as the system told of them when they were looked at
abbrev pub planned_files : List Planned → List FileIdentity
planned_files planned = map (λ one. one.file) planned

-- the file that has the name of a backup, or would have it
abbrev pub backup_file : Option Backup → Option FileIdentity
backup_file None = None
backup_file (Some backup) = Some backup.file

-- the name of a backup
abbrev pub backup_path : Option Backup → Option (List ℕ)
backup_path None = None
backup_path (Some backup) = Some (string_bytes backup.name)

-- no two of these are one file
abbrev pub AreDifferent : List FileIdentity → Type 0
AreDifferent [] = Unit {0}
AreDifferent (file ∷ files) = All (λ other. other ≢ file) files × AreDifferent files
