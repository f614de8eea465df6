-- What a file holds while another text is written over it, and what is left where that is refused (our choice: the new end first).
use Rattle.std.specs.Prelude.{ℕ, ◌≡◌, ◌≤◌, ◌+◌, List, ◌++◌, length, take, drop, Option, Some, None, ⊤, Bool, true}

-- what is known of a file: what it holds, where that is told, and whether a cut of it was refused
pub record FileState : Type 0 where
  pub held : Option (List ℕ)
  pub uncut : Bool

-- bytes after others were written over them from a place on
abbrev pub over : List ℕ → ℕ → List ℕ → List ℕ
over held place text = take place held ++ text ++ drop (place + length text) held

-- known bytes were written over from a place on, which lies within them or is their end
abbrev pub Overwrites : Option (List ℕ) → Option (List ℕ) → ℕ → List ℕ → Type 0
Overwrites None new place text = ⊤
Overwrites (Some old) None place text = ⊥
Overwrites (Some old) (Some new) place text = place ≤ length old → new ≡ over old place text

-- these bytes were written over a file's from a place on, and nothing else was done to it
pub record Wrote (old new : FileState) (place : ℕ) (text : List ℕ) : Type 0 where
  pub written : Overwrites old.held new.held place text
  pub same : new.uncut ≡ old.uncut

-- a front of these bytes was written over a file's from a place on, and nothing else was done to it
pub record WroteFront (old new : FileState) (place : ℕ) (text : List ℕ) : Type 0 where
  pub count : ℕ
  pub within : count ≤ length text
  pub wrote : Wrote old new place (take count text)

-- known bytes were cut to a size that they have or exceed
abbrev pub CutsTo : Option (List ℕ) → Option (List ℕ) → ℕ → Type 0
CutsTo None new size = ⊤
CutsTo (Some old) None size = ⊥
CutsTo (Some old) (Some new) size = size ≤ length old → new ≡ take size old

-- a file was cut to a size, and nothing else was done to it
pub record WasCut (old new : FileState) (size : ℕ) : Type 0 where
  pub cut : CutsTo old.held new.held size
  pub same : new.uncut ≡ old.uncut

-- the bytes of a text that lie beyond the end of others
abbrev pub new_end : List ℕ → List ℕ → List ℕ
new_end old text = drop (length old) text

-- What a refused write of a text over other bytes leaves: those bytes; or, where they couldn't be cut off, a part of the new end after them;
-- or a front of the text, and then what was there, with the whole new end after it; or the whole text, if it wasn't synced.
pub data Leaves (old text : List ℕ) (uncut : Bool) : List ℕ → Type 0 where
  as_it_was : Leaves old text uncut old
  part_of_end : (count : ℕ) → uncut ≡ true → Leaves old text uncut (old ++ take count (new_end old text))
  front : (count : ℕ) → count ≤ length old → Leaves old text uncut (take count text ++ drop count (old ++ new_end old text))
  whole : Leaves old text uncut text

-- known bytes became this text
abbrev pub Becomes : Option (List ℕ) → Option (List ℕ) → List ℕ → Type 0
Becomes None new text = ⊤
Becomes (Some old) None text = ⊥
Becomes (Some old) (Some new) text = new ≡ text

-- known bytes were left so by a refused write of this text
abbrev pub LeavesKnown : Option (List ℕ) → Option (List ℕ) → Bool → List ℕ → Type 0
LeavesKnown None new uncut text = ⊤
LeavesKnown (Some old) None uncut text = ⊥
LeavesKnown (Some old) (Some new) uncut text = Leaves old text uncut new

-- a refused write of this text left a file so
abbrev pub LeftBy : FileState → FileState → List ℕ → Type 0
LeftBy old new text = LeavesKnown old.held new.held new.uncut text
