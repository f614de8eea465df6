-- Earlier buffers, told from the present one: the one that undo would bring back, and the one before a global command that is open.
use Rattle.std.specs.Prelude.{ℕ, ◌≡◌, ◌+◌, ◌-◌, ◌<◌, ◌≤◌, Bool, false, List, [], ◌∷◌, map, length, drop, min, take, Option, Some, None, option_map, IfSome}
use Rattle.ed_base.specs.Buffer.{Line, plain_line}
use Rattle.ed_base.specs.Parts.{carried, exchanged}
use Rattle.line_store.specs.Marks.{lettered}
use Rattle.ed_syntax.specs.meaning.States as states
use Rattle.ed_syntax.specs.meaning.States.{Kept, Open, State, noted, unflagged}
use Rattle.ed_syntax.specs.meaning.Applied.{past_after}
use Rattle.ed_syntax.specs.meaning.Globals.{past_of_global}
use Rattle.ed_commands.specs.declared.editor.past.Held.{Held}
use Rattle.ed_commands.specs.declared.editor.past.OpenGlobal.{OpenGlobal}
use Rattle.ed_commands.specs.declared.editor.past.Undone.{Undone}
use Rattle.ed_commands.specs.declared.editor.past.Undone.TheVariants as undone
use Rattle.ed_commands.specs.declared.editor.past.Change.{Change}
use Rattle.ed_commands.specs.declared.editor.past.Change.TheVariants as change

-- What an editor holds of earlier buffers: what undo would bring back, the global command that is open, and all changes of the
-- lines since; for how many more of these there is room.
pub record PastValue : Type 0 where
  pub undone : Undone
  pub global : Option OpenGlobal
  pub changes : List Change
  pub room : ℕ

-- no more changes came before the buffer that is held than there are
abbrev pub HeldWithin : (count : ℕ) → Held → Type 0
HeldWithin count h = h.since ≤ count

-- no more came before the buffer that undo would bring back
abbrev pub UndoneWithin : (count : ℕ) → Undone → Type 0
UndoneWithin count undone.Nothing = Unit {0}
UndoneWithin count undone.Same = Unit {0}
UndoneWithin count (undone.Was h) = HeldWithin count h

-- nor before the one from before a global command that is open
abbrev pub GlobalWithin : (count : ℕ) → Option OpenGlobal → Type 0
GlobalWithin count global = IfSome global (λ o. HeldWithin count o.held)

-- the last change came after each buffer that is held
pub record OwnsLast (p : PastValue) : Type 0 where
  pub some : 0 < length p.changes
  pub undone : UndoneWithin (length p.changes - 1) p.undone
  pub global : GlobalWithin (length p.changes - 1) p.global

-- what a state keeps of earlier buffers
pub record Earlier : Type 0 where
  pub past : states.Past
  pub global : Option Open

-- nothing to be undone, and no global command
abbrev pub nothing_earlier : Earlier
nothing_earlier = record { past = states.Nothing; global = None }

-- what a state keeps
abbrev pub earlier_in : State → Earlier
earlier_in s = record { past = s.past; global = s.global }

-- the state that keeps this
abbrev pub with_earlier : Earlier → State → State
with_earlier e s = record s { past = e.past; global = e.global }

-- what is kept after a change, by a command or by one of a list, of the buffer before it
abbrev pub earlier_after : (listed : Bool) → Kept → Earlier → Earlier
earlier_after listed before e = record { past = past_after listed before e.past; global = option_map noted e.global }

-- undo would bring this back
abbrev pub undoing : Kept → Earlier → Earlier
undoing before e = record e { past = states.Was before }

-- a global command is open, before which there was this
abbrev pub opening_global : Kept → Earlier → Earlier
opening_global before e = record e { global = Some (record { before = before; altered = false }) }

-- a change was made by the list of a global command, if one is open
abbrev pub noting : Earlier → Earlier
noting e = record e { global = option_map noted e.global }

-- the global command is over, if one is open
abbrev pub closing : Earlier → Earlier
closing e = elim e.global [ None ↦ e | Some g ↦ record { past = past_of_global g; global = None } ]

-- The texts of the lines before a change, told from those after it. What was moved is carried back.
abbrev pub texts_before : Change → List (List ℕ) → List (List ℕ)
texts_before (change.Replaced from entered removed) now = exchanged from (from + entered) removed now
texts_before (change.Moved from to place) now = carried place (place + (to - from)) from now

-- the place of what a change brought in is among the lines, or right after them
abbrev pub StandsIn : Change → (now : List (List ℕ)) → Type 0
StandsIn (change.Replaced from entered removed) now = from ≤ length now
StandsIn (change.Moved from to place) now = Unit {0}

-- the texts before several changes, of which the last one is taken back first
abbrev pub rewound : List Change → List (List ℕ) → List (List ℕ)
rewound [] now = now
rewound (c ∷ later) now = texts_before c (rewound later now)

-- changes that stand from this place on, after those that were there before
abbrev pub StandsAfter : (before : List Change) → (from : ℕ) → (changes : List Change) → Type 0
StandsAfter before from changes = (from ≡ length before) × (take from changes ≡ before)

-- lines of these texts as undo keeps them, with their letters where they were then
abbrev pub kept_of : (current : ℕ) → (marks : List (Option ℕ)) → (then : List (List ℕ)) → Kept
kept_of current marks then = record { lines = lettered marks 0 (map plain_line then); current = min current (length then) }

-- lines as undo keeps them, of which this one was current, or the last one where there are fewer
abbrev pub kept_lines : (current : ℕ) → List Line → Kept
kept_lines current lines = record { lines = unflagged lines; current = min current (length lines) }

-- the buffer of which this is held: all changes but the first so many came after it
abbrev pub held_buffer : Held → List Change → (now : List (List ℕ)) → Kept
held_buffer h changes now = kept_of h.current h.marks (rewound (drop h.since changes) now)

-- what undo would bring back
abbrev pub undone_past : Undone → List Change → (now : List (List ℕ)) → states.Past
undone_past undone.Nothing changes now = states.Nothing
undone_past undone.Same changes now = states.Same
undone_past (undone.Was h) changes now = states.Was (held_buffer h changes now)

-- a global command that is open
abbrev pub open_global : List Change → (now : List (List ℕ)) → OpenGlobal → Open
open_global changes now o = record { before = held_buffer o.held changes now; altered = o.altered }

-- What is kept of earlier buffers, told from the texts of the lines as they are now: whatever letters and flags these have, it is the same.
unfoldable pub earlier_of : PastValue → (now : List (List ℕ)) → Earlier
earlier_of p now = record {
  past = undone_past p.undone p.changes now;
  global = option_map (open_global p.changes now) p.global;
}

-- What undo does where this is what it would bring back, told by the line that is current then: it leaves all as it is, or brings back a
-- buffer and keeps the present one.
abbrev pub Restores : states.Past → (current : ℕ) → (old new : List Line) → (before after : Earlier) → Option ℕ → Type 0
Restores states.Nothing current old new before after line = ⊥
Restores states.Same current old new before after None = (new ≡ old) × (after ≡ before)
Restores states.Same current old new before after (Some line) = ⊥
Restores (states.Was k) current old new before after None = ⊥
Restores (states.Was k) current old new before after (Some line) = (new ≡ k.lines) × (line ≡ k.current) × (after ≡ undoing (kept_lines current old) before)
