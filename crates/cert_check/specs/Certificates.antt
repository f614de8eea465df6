-- What a certificate says, apart from where it lies in memory.
use Rattle.std.specs.Prelude.{ℕ, List, map, Option, option_map}
use Rattle.std.specs.Global.{Box}
use Rattle.landmarks.specs.ChainValues.{ChainValue}
use Rattle.ed_rules.specs.declared.state.State.{State}
use Rattle.cert_check.specs.declared.certificate.Version.{Version}
use Rattle.cert_check.specs.declared.certificate.Looped as looped
use Rattle.cert_check.specs.declared.certificate.Note as note
use Rattle.cert_check.specs.declared.certificate.Certificate as public

-- what is known at every turn of a global command's list, and before each command of the list
pub record Looped : Type 0 where
  pub invariant : State
  pub inner : List State

-- what is known before a command, and, of a global command, of its list
pub record Note : Type 0 where
  pub state : State
  pub looped : Option Looped

-- The version, which says what is told of lines. The path that the run starts with, how many lines the start may have, which patterns some
-- of them match, and the chains of landmarks that it has. A note for each counted command, of what is known before it. What is known at the end, and
-- how many lines there may be then. The paths that may be written.
pub record Certificate : Type 0 where
  pub version : Version
  pub path : Option (List ℕ)
  pub min : ℕ
  pub max : Option ℕ
  pub has : List (List ℕ)
  pub landmarks : List ChainValue
  pub notes : List Note
  pub last : State
  pub low : ℕ
  pub high : Option ℕ
  pub writes : List (List ℕ)

-- what a note in memory stands for
abbrev pub looped_value : looped.Looped → Looped
looped_value l = record { invariant = l.invariant; inner = l.inner.items }

-- the same of what stands elsewhere in memory
abbrev pub boxed_value : Box looped.Looped → Looped
boxed_value b = looped_value b.value

abbrev pub note_value : note.Note → Note
note_value n = record { state = n.state; looped = option_map boxed_value n.looped }

-- what a certificate in memory stands for
abbrev pub certificate_value : public.Certificate → Certificate
certificate_value c = record {
  version = c.version;
  path = c.path;
  min = c.min;
  max = c.max;
  has = c.has;
  landmarks = c.landmarks.items;
  notes = map note_value c.notes.items;
  last = c.last;
  low = c.low;
  high = c.high;
  writes = c.writes.items;
}
