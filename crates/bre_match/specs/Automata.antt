-- An automaton: states by their numbers, and a table with an entry for each state and symbol.
use Rattle.std.specs.Prelude.{◌≡◌, ℕ, ◌+◌, ◌*◌, ◌%◌, ◌<◌, ◌≤◌, Bool, false, List, [], length, get_or, Option, Some, None, nat_eq, nat_le, nat_lt, slice_get, if◌then◌else◌}
use Rattle.std.proofs.Props.{props}
use Rattle.bre_match.specs.declared.state.Starts.{Starts}
use Rattle.bre_match.specs.Parts.{Part}
use Rattle.bre_match.specs.States.{part_for, first_row, transition}

-- Symbols are the bytes, and 256 for the end of the text.
abbrev pub symbol_byte : ℕ → Option ℕ
symbol_byte symbol = if nat_lt symbol 256 then Some symbol else None

-- The table has 512 entries a state, by their symbols; past its end nothing is known.
abbrev pub entry_at : (table : List ℕ) → (state symbol : ℕ) → ℕ
entry_at table state symbol = get_or table (512 * state + symbol) 65535

-- the number of an entry's state: from 256 on entries say that a match ends, and 256 is added to the number
abbrev pub state_in : (entry : ℕ) → ℕ
state_in entry = entry % 256

-- An entry says nothing yet (65535), or whether a match ends, and which state is next.
abbrev pub meaning_of : (states : List (List (Option ℕ))) → (entry : ℕ) → Option (Bool × List (Option ℕ))
meaning_of states entry =
    if nat_eq entry 65535 then None else Some (nat_le 256 entry, get_or states (state_in entry) [])

-- The state of an entry that says something is a later one than the first, to which no transition leads.
abbrev pub IsEntry : (states : List (List (Option ℕ))) → (entry : ℕ) → Type 0
IsEntry states entry = nat_eq entry 65535 ≡ false → (0 < state_in entry) × (state_in entry < length states)

-- What an entry says is the transition in each text, at each place with its symbol. The first state stands for the start of a text
-- alone, where `^` holds, and the others for later places.
abbrev pub EntriesHold : Part → (states : List (List (Option ℕ))) → (table : List ℕ) → Type 0
EntriesHold part states table =
    (state symbol : ℕ) (answer : Bool × List (Option ℕ)) (text : List ℕ) (place : ℕ) →
    state < length states → symbol ≤ 256 → meaning_of states (entry_at table state symbol) ≡ Some answer →
    place ≤ length text → slice_get text place ≡ symbol_byte symbol → nat_eq place 0 ≡ nat_eq state 0 →
    transition part (get_or states state []) text place ≡ answer

-- States and their table serve a part, for these starts: there are at most 128 states, of which the first two have the first row; the
-- table has their entries, and knows nothing of other states; and each entry holds.
pub record Serves (starts : Starts) (part : Part) (states : List (List (Option ℕ))) (table : List ℕ) : Type 0 where
  pub few : length states ≤ 128
  pub first : get_or states 0 (first_row starts) ≡ first_row starts
  pub second : get_or states 1 (first_row starts) ≡ first_row starts
  pub room : 512 * length states ≤ length table
  pub fresh : (slot : ℕ) → 512 * length states ≤ slot → get_or table slot 65535 ≡ 65535
  pub entries : (slot : ℕ) → IsEntry states (get_or table slot 65535)
  pub hold : EntriesHold (part_for starts part) states table

-- there is at most one proof that they do
pub Serves-prop : (starts : Starts) (part : Part) (states : List (List (Option ℕ))) (table : List ℕ) →
    IsProp (Serves starts part states table)
Serves-prop starts part states table = Prim.hlevel props

-- at most one state came after the others
abbrev pub Grows : List (List (Option ℕ)) → List (List (Option ℕ)) → Type 0
Grows old new =
    (length old ≤ length new) × (length new ≤ length old + 1)
    × ((state : ℕ) → state < length old → get_or new state [] ≡ get_or old state [])

-- two tables have the same entries, where those past the end are not known
abbrev pub SameEntries : (table other : List ℕ) → Type 0
SameEntries table other = (slot : ℕ) → get_or table slot 65535 ≡ get_or other slot 65535
