-- Which line is wanted where one stands that may not stand there.
use Rattle.std.specs.Prelude.{◌≡◌, ◌⊎◌, ℕ, List, [], ◌∷◌, ◌++◌, codes, All}
use Rattle.ed_base.specs.Lines.{IsLine}
use Rattle.cert_check.specs.declared.text.wanted.LineKind.{LineKind}
use Rattle.cert_check.specs.declared.text.wanted.LineKind.TheVariants as kind
use Rattle.cert_check.specs.declared.text.wanted.Wanted.{Wanted}
use Rattle.cert_check.specs.text.Text.{Word, line_text}
use Rattle.cert_check.specs.text.Faults.{Begins, IsLineFault}

-- the word with which a line of a kind begins
abbrev pub key : LineKind → Word
key kind.Path = codes "path"
key kind.Start = codes "start"
key kind.Has = codes "has"
key kind.At = codes "at"
key kind.NoteOrEnd = codes "note"
key kind.Zone = codes "zone"
key kind.Marks = codes "marks"
key kind.Lines = codes "lines"
key kind.Clear = codes "clear"
key kind.Patterns = codes "patterns"
key kind.Replacements = codes "replacements"
key kind.Names = codes "names"
key kind.Changed = codes "changed"
key kind.Undo = codes "undo"
key kind.OldZone = codes "old-zone"
key kind.OldMarks = codes "old-marks"
key kind.OldHas = codes "old-has"
key kind.OldLines = codes "old-lines"
key kind.OldClear = codes "old-clear"
key kind.NoteLoopOrEnd = codes "note"
key kind.InnerOrDone = codes "inner"
key kind.Final = codes "final"
key kind.Writes = codes "writes"

-- the words with which it may begin in place of that one
abbrev pub other_keys : LineKind → List Word
other_keys kind.NoteOrEnd = codes "end" ∷ []
other_keys kind.NoteLoopOrEnd = codes "loop" ∷ codes "end" ∷ []
other_keys kind.InnerOrDone = codes "done" ∷ []
other_keys _ = []

-- all of them
abbrev pub keys : LineKind → List Word
keys kind = key kind ∷ other_keys kind

-- words as they are told: `note, loop or end`
abbrev pub told_words : List Word → List ℕ
told_words [] = []
told_words (word ∷ []) = word
told_words (word ∷ last ∷ []) = word ++ codes " or " ++ last
told_words (word ∷ words) = word ++ codes ", " ++ told_words words

-- a line whose first word is this one
pub record HasKey (word : Word) (line : List ℕ) : Type 0 where
  pub words : List Word
  pub is : line_text (word ∷ words) ≡ line

-- a line whose first word is one of these
abbrev pub HasSomeKey : List Word → (line : List ℕ) → Type 0
HasSomeKey [] line = ⊥
HasSomeKey (word ∷ words) line = HasKey word line ⊎ HasSomeKey words line

-- a line that begins as those of a kind do
abbrev pub IsOfKind : LineKind → (line : List ℕ) → Type 0
IsOfKind kind line = HasSomeKey (keys kind) line

-- a line whose first word is this one, of which this holds
pub record SomeLine (Holds : List ℕ → Type 0) (word : Word) : Type 0 where
  pub line : List ℕ
  pub key : HasKey word line
  pub holds : Holds line

-- A line of the bytes is the first that may not stand where it stands. Each line that may stand there is of the kind, and for each word of
-- the kind some line that begins with it may stand there.
pub record IsWanted (wanted : Wanted) (bytes : List ℕ) : Type 0 where
  pub fault : IsLineFault wanted.line bytes
  pub kind : (line : List ℕ) → IsLine line → Begins (fault.above ++ line ∷ []) → IsOfKind wanted.kind line
  pub each : All (SomeLine (λ line. IsLine line × Begins (fault.above ++ line ∷ []))) (keys wanted.kind)
