-- What is read where writes are held back (our choice: the draft of a path that was written, and else the file).
use Rattle.std.specs.Prelude.{ℕ, ◌≡◌, ◌<◌, Bool, true, false, not, List, take, length, slice_index_or}
use Rattle.ed_syntax.specs.declared.request.Answer.{Answer}
use Rattle.whole.specs.Deeds.{Deed, run_log}
use Rattle.whole.specs.Paths.{is_in, write_paths}

-- a call that reads, after writes of these paths: it reads the draft of one of them, and the file at any other
abbrev pub reads_held : List (List ℕ) → Deed → Bool
reads_held written (Deed.Read path given) = not (is_in path written)
reads_held written (Deed.ReadDraft path given) = is_in path written
reads_held written other = true

-- each read of these is of the draft where the path was written before it, and else of the file
abbrev pub ReadsHeld : List Deed → Type 0
ReadsHeld deeds =
    (k : ℕ) (deed : Deed) → k < length deeds →
    reads_held (write_paths (run_log (take k deeds))) (slice_index_or deeds k deed) ≡ true

-- the call by which a path is read that was written before, or wasn't
abbrev pub read_of : Bool → List ℕ → Answer → Deed
read_of true path given = Deed.ReadDraft path given
read_of false path given = Deed.Read path given
