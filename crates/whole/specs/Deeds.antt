-- Files that are replaced whole, and the drafts beside them: what is asked of them, and what a run has asked (our choice).
use Rattle.std.specs.Prelude.{ℕ, Bool, true, false, ◌≡◌, List, [], ◌∷◌, ◌++◌, drop, length, All, count_by, flat_map}
use Rattle.ed_syntax.specs.declared.request.Answer.{Answer}
use Rattle.ed_syntax.specs.declared.request.Request.{Request}
use Rattle.ed_syntax.specs.declared.request.Request.TheVariants as request
use Rattle.ed_session.specs.Drives.{Log, is_refusal}

-- One call, with its answer or with whether it was done: the file at a path was read, or the draft beside it; that draft was given
-- these bytes; it was made ready to take the place of the file; it was put there; it was discarded; what was put at the path was settled
-- in its folder, as far as the system lets that be done.
pub data Deed : Type 0 where
  Read : (path : List ℕ) → (given : Answer) → Deed
  ReadDraft : (path : List ℕ) → (given : Answer) → Deed
  Draft : (path bytes : List ℕ) → (given : Answer) → Deed
  Ready : (path : List ℕ) → (done : Bool) → Deed
  Put : (path : List ℕ) → (done : Bool) → Deed
  Discard : (path : List ℕ) → Deed
  Settle : (path : List ℕ) → Deed

-- the request of a run that a call has answered, with its answer, if it is for one
abbrev pub entry_of : Deed → Log
entry_of (Deed.Read path given) = (request.Read path, given) ∷ []
entry_of (Deed.ReadDraft path given) = (request.Read path, given) ∷ []
entry_of (Deed.Draft path bytes given) = (request.Write path bytes, given) ∷ []
entry_of (Deed.Ready path done) = []
entry_of (Deed.Put path done) = []
entry_of (Deed.Discard path) = []
entry_of (Deed.Settle path) = []

-- what a run has asked and was answered, the oldest first
abbrev pub run_log : List Deed → Log
run_log deeds = flat_map entry_of deeds

-- how often a run was refused
abbrev pub refusals : Log → ℕ
refusals log = count_by (λ (entry : Request × Answer). is_refusal entry.1) log

-- a call that holds back: it reads, or gives a draft its bytes
abbrev pub holds_back : Deed → Bool
holds_back (Deed.Read path given) = true
holds_back (Deed.ReadDraft path given) = true
holds_back (Deed.Draft path bytes given) = true
holds_back (Deed.Ready path done) = false
holds_back (Deed.Put path done) = false
holds_back (Deed.Discard path) = false
holds_back (Deed.Settle path) = false

-- nothing was put, or made ready, or discarded, or settled: files and drafts were read, and drafts were given their bytes
abbrev pub NothingPut : List Deed → Type 0
NothingPut deeds = All (λ deed. holds_back deed ≡ true) deeds

-- these calls and more after them
abbrev pub GoesOn : (before after : List Deed) → Type 0
GoesOn before after = after ≡ before ++ drop (length before) after

-- the path whose draft a call has made ready, if it has
abbrev pub ready_path : Deed → List (List ℕ)
ready_path (Deed.Ready path true) = path ∷ []
ready_path other = []

-- the path whose draft a call was to make ready, if it was
abbrev pub readying_path : Deed → List (List ℕ)
readying_path (Deed.Ready path done) = path ∷ []
readying_path other = []

-- the path at which a call was to put a draft, if it was
abbrev pub tried_path : Deed → List (List ℕ)
tried_path (Deed.Put path done) = path ∷ []
tried_path other = []

-- the path at which a call has put a draft, if it has
abbrev pub put_path : Deed → List (List ℕ)
put_path (Deed.Put path true) = path ∷ []
put_path other = []

-- the path whose draft a call has discarded, if it has
abbrev pub discarded_path : Deed → List (List ℕ)
discarded_path (Deed.Discard path) = path ∷ []
discarded_path other = []

-- the path that a call has settled, if it has
abbrev pub settled_path : Deed → List (List ℕ)
settled_path (Deed.Settle path) = path ∷ []
settled_path other = []

-- the paths whose drafts were made ready, in order
abbrev pub ready_paths : List Deed → List (List ℕ)
ready_paths deeds = flat_map ready_path deeds

-- the paths whose drafts were to be made ready, in order
abbrev pub readying_paths : List Deed → List (List ℕ)
readying_paths deeds = flat_map readying_path deeds

-- the paths at which drafts were to be put, in order
abbrev pub tried_paths : List Deed → List (List ℕ)
tried_paths deeds = flat_map tried_path deeds

-- the paths at which drafts were put, in order
abbrev pub put_paths : List Deed → List (List ℕ)
put_paths deeds = flat_map put_path deeds

-- the paths whose drafts were discarded, in order
abbrev pub discarded_paths : List Deed → List (List ℕ)
discarded_paths deeds = flat_map discarded_path deeds

-- the paths that were settled, in order
abbrev pub settled_paths : List Deed → List (List ℕ)
settled_paths deeds = flat_map settled_path deeds
