-- How a certificate is read, one piece of its text after another.
use Rattle.std.specs.Prelude.{◌≡◌, ℕ, suc, ◌+◌, Bool, true, false, ◌&&◌, ◌||◌, List, [], ◌∷◌, ◌++◌, length, map, codes, Option, Some, None, is_some, Result, Ok, Err, All}
use Rattle.std.specs.List.{flat_map}
use Rattle.ed_base.specs.Lines.{newline, IsLine, bytes_of}
use Rattle.ed_rules.specs.declared.state.Old.{Old}
use Rattle.ed_rules.specs.declared.state.Undo.{Undo}
use Rattle.ed_rules.specs.declared.state.Changed.{Changed}
use Rattle.ed_rules.specs.declared.state.Replacements.{Replacements}
use Rattle.ed_rules.specs.declared.state.State.{State}
use Rattle.ed_rules.specs.Formed.{ZoneIsFormed}
use Rattle.ed_rules.specs.facts.Facts.{Facts}
use Rattle.ed_rules.specs.LineBounds.{is_few, is_limit, is_within}
use Rattle.cert_check.specs.declared.text.cursor.Head.{Head}
use Rattle.cert_check.specs.declared.text.cursor.Head.TheVariants.{AnotherNote, Loop, End}
use Rattle.cert_check.specs.declared.text.fault.CertFault.{CertFault}
use Rattle.cert_check.specs.declared.text.fault.CertFault.TheVariants as fault
use Rattle.cert_check.specs.declared.text.fault.Unread.{Unread}
use Rattle.cert_check.specs.declared.text.fault.Unread.TheVariants.{Version, Line, Size, Memory}
use Rattle.cert_check.specs.declared.text.lines.Found.{Found}
use Rattle.cert_check.specs.declared.text.states.Buffer as buffers
use Rattle.cert_check.specs.declared.text.states.BufferKinds.{BufferKinds}
use Rattle.cert_check.specs.declared.text.wanted.Wanted.{Wanted}
use Rattle.cert_check.specs.declared.certificate.Version as versions
use Rattle.cert_check.specs.declared.certificate.Certificate as public
use Rattle.cert_check.specs.declared.certificate.Note as note
use Rattle.cert_check.specs.Certificates.{Looped, Note, Certificate, note_value, certificate_value}
use Rattle.cert_check.specs.text.Text as text
use Rattle.cert_check.specs.text.Text.{Word, line_text, BufferKeys, known_line, clear_line, undo_line, texts_line, matched_lines, told_lines, chains_lines, old_lines, state_lines, headed_lines, looped_lines, note_lines, path_line, bounds_line}
use Rattle.cert_check.specs.text.Reading.{undo_words_line}
use Rattle.cert_check.specs.text.HasText.{IsSaidIn, StateHasText, NoteHasText, HasText, IsText}
use Rattle.cert_check.specs.text.FactsText.{AreToldIn}
use Rattle.cert_check.specs.text.Faults.{IsVersionFault, IsSizeFault}
use Rattle.cert_check.specs.text.Wanted.{key, other_keys, keys, IsOfKind, SomeLine, IsWanted}

-- where a reader stands: the bytes that are left, and how many lines stand above them
pub record Left : Type 0 where
  pub bytes : List ℕ
  pub above : ℕ

-- the next line and its newline were read
pub record IsNext (line : List ℕ) (old new : Left) : Type 0 where
  pub is_line : IsLine line
  pub parted : old.bytes ≡ line ++ newline ∷ new.bytes
  pub counted : new.above ≡ suc old.above

-- these lines were read
pub record Took (lines : List (List ℕ)) (old new : Left) : Type 0 where
  pub parted : old.bytes ≡ bytes_of lines ++ new.bytes
  pub counted : new.above ≡ old.above + length lines

-- lines as bytes
abbrev pub texts : List text.Line → List (List ℕ)
texts lines = map line_text lines

-- texts of a kind: these lines are those of some value
pub record IsOf {A : Type 0} (spell : A → List text.Line) (Has : A → Type 0) (lines : List (List ℕ)) : Type 0 where
  pub value : A
  pub has : Has value
  pub is : texts (spell value) ≡ lines

-- below these lines a text of the kind may go on with this line
pub record MayStand (kind : List (List ℕ) → Type 0) (above : List (List ℕ)) (next : List ℕ) : Type 0 where
  pub more : List (List ℕ)
  pub is : kind (above ++ next ∷ more)

-- a line that no text of the kind has where it stands, below lines that begin one; those that have one there have one of this kind of
-- lines, and may have one that begins with each of its words
pub record IsStrange (kind : List (List ℕ) → Type 0) (old : Left) (wanted : Wanted) : Type 0 where
  pub above : List (List ℕ)
  pub line : List ℕ
  pub after : List ℕ
  pub parted : old.bytes ≡ bytes_of above ++ (line ++ newline ∷ after)
  pub is_line : IsLine line
  pub number_is : old.above + suc (length above) ≡ wanted.line
  pub more : List (List ℕ)
  pub begun : kind (above ++ more)
  pub stuck : (whole back after : List (List ℕ)) → kind whole → whole ++ back ≡ above ++ line ∷ after → ⊥
  pub other : (whole back after : List (List ℕ)) (next : List ℕ) → kind whole → whole ++ back ≡ above ++ next ∷ after → IsOfKind wanted.kind next
  pub each : All (SomeLine (MayStand kind above)) (keys wanted.kind)

-- no whole line is left, and those that were there begin a text of the kind and are none
pub record IsShort (kind : List (List ℕ) → Type 0) (old : Left) : Type 0 where
  pub above : List (List ℕ)
  pub last : List ℕ
  pub parted : old.bytes ≡ bytes_of above ++ last
  pub is_line : IsLine last
  pub more : List (List ℕ)
  pub begun : kind (above ++ more)
  pub stuck : (whole back : List (List ℕ)) → kind whole → whole ++ back ≡ above → ⊥

-- why no text of the kind stands there
abbrev pub IsFault : (kind : List (List ℕ) → Type 0) → Left → Unread → Type 0
IsFault kind old Version = ⊥
IsFault kind old (Line wanted) = IsStrange kind old wanted
IsFault kind old Size = IsShort kind old
IsFault kind old Memory = Unit {0}

-- a value whose text stood there was read, or none stands there
abbrev pub Reads : {A B : Type 0} → (value : A → B) → (spell : B → List text.Line) → (Has : B → Type 0) → (old new : Left) → Result A Unread → Type 0
Reads value spell Has old new (Ok v) = Has (value v) × Took (texts (spell (value v))) old new
Reads value spell Has old new (Err fault) = IsFault (IsOf spell Has) old fault

-- the fault that is told
abbrev pub fault_of : Unread → CertFault
fault_of Version = fault.Version
fault_of (Line wanted) = fault.Line wanted.line
fault_of Size = fault.Size
fault_of Memory = fault.Memory

-- what bytes are read as, with what is wanted where a line may not stand
abbrev pub IsReadAs : (bytes : List ℕ) → Result public.Certificate Unread → Type 0
IsReadAs bytes (Ok c) = IsText bytes (certificate_value c)
IsReadAs bytes (Err Version) = IsVersionFault bytes
IsReadAs bytes (Err (Line wanted)) = IsWanted wanted bytes
IsReadAs bytes (Err Size) = IsSizeFault bytes
IsReadAs bytes (Err Memory) = Unit {0}

-- a value, read as it is
abbrev pub same : {A : Type 0} → A → A
same a = a

-- one line
abbrev pub alone : {A : Type 0} → (spell : A → text.Line) → A → List text.Line
alone spell a = spell a ∷ []

-- at least how many lines, and at most
abbrev pub limits_line : (key : Word) → ℕ × Option ℕ → text.Line
limits_line key limits = bounds_line key limits.0 limits.1

abbrev pub AreLimits : ℕ × Option ℕ → Type 0
AreLimits limits = (is_few limits.0 && is_limit limits.1) ≡ true

abbrev pub AreStartLimits : ℕ × Option ℕ → Type 0
AreStartLimits limits = (is_few limits.0 && is_limit limits.1 && is_within limits.0 limits.1) ≡ true

-- some replacement, some side of a change, and something that undo may find
abbrev pub IsSomeReplacement : Replacements → Type 0
IsSomeReplacement r = (r.none || r.plain || r.split) ≡ true

abbrev pub IsSomeChange : Changed → Type 0
IsSomeChange c = (c.no || c.yes) ≡ true

abbrev pub IsFound : Found → Type 0
IsFound f = (f.nothing || f.same || f.was) ≡ true

-- what undo may find, without what an earlier buffer was
abbrev pub found_line : Found → text.Line
found_line f = undo_words_line f.nothing f.same f.was

-- of one of two words
abbrev pub either_line : (one other : Word) → Bool → text.Line
either_line one other true = one ∷ []
either_line one other false = other ∷ []

-- what may follow the state of a note
abbrev pub head_line : Head → text.Line
head_line AnotherNote = codes "note" ∷ []
head_line Loop = codes "loop" ∷ []
head_line End = codes "end" ∷ []

-- what some line of a buffer matches, and what is known of its lines
abbrev pub known_lines : versions.Version → BufferKeys → List (List ℕ) × Facts → List text.Line
known_lines version keys known = matched_lines version keys.has known.0 ++ told_lines version keys.lines keys.clear known.1

-- the two lines of facts
abbrev pub both_lines : (known_key clear_key : Word) → Facts → List text.Line
both_lines known_key clear_key facts = known_line known_key facts.lines ∷ clear_line clear_key facts.clear ∷ []

-- a buffer as it is read
abbrev pub buffer_value : buffers.Buffer → Old × List (List ℕ)
buffer_value b = (record { zone = b.zone; marks = b.marks; facts = b.facts }, b.has)

abbrev pub BufferIsFormed : versions.Version → Old × List (List ℕ) → Type 0
BufferIsFormed version buffer =
    ZoneIsFormed buffer.0.marks buffer.0.zone × (IsSaidIn version buffer.1 × AreToldIn version buffer.0.marks buffer.0.facts)

-- the kinds of a buffer's lines, each of which begins with one word
abbrev pub keys_of : BufferKinds → BufferKeys
keys_of kinds = record {
  zone = key kinds.zone;
  marks = key kinds.marks;
  has = key kinds.has;
  lines = key kinds.lines;
  clear = key kinds.clear;
}

pub record AreAlone (kinds : BufferKinds) : Type 0 where
  pub zone : other_keys kinds.zone ≡ []
  pub marks : other_keys kinds.marks ≡ []
  pub has : other_keys kinds.has ≡ []
  pub lines : other_keys kinds.lines ≡ []
  pub clear : other_keys kinds.clear ≡ []

-- an earlier buffer, where there is one
abbrev pub EarlierIsFormed : versions.Version → Option Old → (has : List (List ℕ)) → Type 0
EarlierIsFormed version None has = has ≡ []
EarlierIsFormed version (Some old) has = BufferIsFormed version (old, has)

-- what undo may find, and what some line of an earlier buffer matches
abbrev pub undo_lines : versions.Version → Undo × List (List ℕ) → List text.Line
undo_lines version found = undo_line found.0 ∷ old_lines version found.0.was found.1

abbrev pub UndoIsFormed : versions.Version → Undo × List (List ℕ) → Type 0
UndoIsFormed version found =
    ((found.0.nothing || found.0.same || is_some found.0.was) ≡ true) × EarlierIsFormed version found.0.was found.1

-- the states of a list's commands, and the end of the list
abbrev pub inner_lines : versions.Version → List State → List text.Line
inner_lines version states = flat_map (headed_lines version (codes "inner")) states ++ (codes "done" ∷ []) ∷ []

-- the rest of what is known of a list
abbrev pub list_lines : versions.Version → Looped → List text.Line
list_lines version l = state_lines version l.invariant ++ inner_lines version l.inner

-- the rest of a note, and the head of the next one or of the end
abbrev pub noted_lines : versions.Version → Note × Bool → List text.Line
noted_lines version noted =
    (state_lines version noted.0.state ++ looped_lines version noted.0.looped) ++ either_line (codes "note") (codes "end") noted.1 ∷ []

-- notes, and the head of the end
abbrev pub notes_lines : versions.Version → List Note → List text.Line
notes_lines version notes = flat_map (note_lines version) notes ++ (codes "end" ∷ []) ∷ []

abbrev pub ListIsFormed : versions.Version → Looped → Type 0
ListIsFormed version l = StateHasText version l.invariant × All (StateHasText version) l.inner

abbrev pub NotedIsFormed : versions.Version → Note × Bool → Type 0
NotedIsFormed version noted = NoteHasText version noted.0

-- what a note in memory stands for, and whether another follows
abbrev pub noted_value : note.Note × Bool → Note × Bool
noted_value noted = (note_value noted.0, noted.1)

-- the lines of a certificate below the first
abbrev pub rest_lines : Certificate → List text.Line
rest_lines c =
    path_line c.path ∷ bounds_line (codes "start") c.min c.max ∷ matched_lines c.version (codes "has") c.has
    ++ (chains_lines c.version c.landmarks ++ (notes_lines c.version c.notes ++ (state_lines c.version c.last ++ bounds_line (codes "final") c.low c.high ∷ texts_line (codes "writes") c.writes ∷ [])))

-- a certificate of this version that has a text
abbrev pub HasTextIn : versions.Version → Certificate → Type 0
HasTextIn version c = (c.version ≡ version) × HasText c
