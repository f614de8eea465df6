-- What each command takes, and what else is asked of it: one table of all commands (XCU ed, "Commands in ed").
use Rattle.std.specs.Prelude.{ℕ, pos, List, Bool, true, false, not, ◌&&◌, ◌||◌, nat_lt, Option, Some, None, is_some}
use Rattle.std.specs.List.{list_all, list_any}
use Rattle.ed_syntax.specs.Commands as ed
use Rattle.ed_syntax.specs.Commands.{Address, Addresses, Without, One, Comma, Semicolon, Verb, Command, Step, at_base}
use Rattle.ed_syntax.specs.declared.replacement.Part.{Part}
use Rattle.ed_syntax.specs.declared.replacement.Part.TheVariants as part
use Rattle.ed_syntax.specs.declared.verbs.Ends.{Ends}
use Rattle.ed_syntax.specs.declared.verbs.Ends.TheVariants as ends
use Rattle.ed_syntax.specs.declared.verbs.Taking.{Taking}
use Rattle.ed_syntax.specs.declared.verbs.Taking.TheVariants as many

-- the current line
abbrev pub here : Address
here = at_base ed.Current

-- the line after the current one
abbrev pub next : Address
next = record { base = ed.Current; offset = pos 1 }

-- What a command does to the lines of the buffer, its list aside: nothing; it puts these lines in, and the others stay; it puts them in
-- place of some lines; it takes some away; it makes one line of several; it moves or copies some; it writes some anew; it puts in the
-- lines that a file has; it puts these in place of all lines; it brings back those of before the last change.
pub data Alteration : Type 0 where
  Never : Alteration
  Enters : (text : List (List ℕ)) → Alteration
  Replaces : (text : List (List ℕ)) → Alteration
  Deletes : Alteration
  Joins : Alteration
  Carries : Alteration
  Rewrites : Alteration
  Reads : Alteration
  Loads : Alteration
  BringsBack : Alteration

-- What a command takes, and what else is asked of it: the addresses that it has where none are given; how many it takes, and what line 0
-- means to it; whether the lines of a text follow it; the address that is its target; the pattern and the path that it is given; whether a
-- suffix may follow; whether it may stand in the list of a global command (that `e`, `E`, `q`, `Q` and `u` may not is our choice); whether
-- it asks for a file; whether it may change the buffer, `g` and `v` by their list; what it does to the lines; whether it is exact: whether
-- all that it looks at of the buffer, beside what its addresses ask, is how many lines there are; how it ends the run; whether it has a
-- list. Without addresses `g`, `v` and `w` take all lines.
pub record Takes : Type 0 where
  pub default : Addresses
  pub taking : Taking
  pub text : Bool
  pub target : Option Address
  pub pattern : Option (List ℕ)
  pub path : Option (List ℕ)
  pub suffix : Bool
  pub listed : Bool
  pub asks : Bool
  pub alters : Bool
  pub lines : Alteration
  pub exact : Bool
  pub ends : Option Ends
  pub global : Bool

-- The row of a command that changes nothing: no text follows it, it has no target, pattern, path or list, asks for no file, and is exact; a
-- suffix may follow it, it may stand in a list, and the run goes on. The rows of the table say what is otherwise.
abbrev pub row : Addresses → Taking → Takes
row default taking = record {
  default = default;
  taking = taking;
  text = false;
  target = None;
  pattern = None;
  path = None;
  suffix = true;
  listed = true;
  asks = false;
  alters = false;
  lines = Never;
  exact = true;
  ends = None;
  global = false;
}

-- that of `e` and `E`, with this path
abbrev pub loading : Option (List ℕ) → Takes
loading path = record (row Without many.NoAddress) {
  path = path;
  suffix = false;
  listed = false;
  asks = true;
  alters = true;
  lines = Loads;
  exact = false;
}

-- what each command takes
abbrev pub takes : Verb → Takes
takes (ed.Append text) = record (row (One here) many.Place) { text = true; alters = true; lines = Enters text }
takes (ed.Change text) = record (row (Comma here here) many.Lines) { text = true; alters = true; lines = Replaces text }
takes ed.Delete = record (row (Comma here here) many.Range) { alters = true; lines = Deletes }
takes (ed.Insert text) = record (row (One here) many.FirstPlace) { text = true; alters = true; lines = Enters text }
takes ed.Join = record (row (Comma here next) many.Range) { alters = true; lines = Joins }
takes (ed.Mark letter) = record (row (One here) many.OneLine) { exact = false }
takes (ed.Move to) = record (row (Comma here here) many.Range) { target = Some to; alters = true; lines = Carries }
takes (ed.Copy to) = record (row (Comma here here) many.Range) { target = Some to; alters = true; lines = Carries }
takes (ed.Substitute pattern replacement choice form) =
    record (row (Comma here here) many.Range) { pattern = pattern; suffix = false; alters = true; lines = Rewrites; exact = false }
takes ed.LineNumber = row (One (at_base ed.Last)) many.Place
takes ed.Null = record (row (One next) many.OneLine) { suffix = false }
takes (ed.Write form) = row (Comma here here) many.Range
takes (ed.ReadFile path) =
    record (row (One (at_base ed.Last)) many.Place) {
      path = path;
      suffix = false;
      asks = true;
      alters = true;
      lines = Reads;
      exact = false;
    }
takes (ed.WriteFile path) = record (row Without many.Whole) { path = path; suffix = false; asks = true }
takes (ed.Edit path) = loading path
takes (ed.EditAnyway path) = loading path
takes (ed.FileName path) = record (row Without many.NoAddress) { path = path; suffix = false }
takes (ed.Global sense pattern) =
    record (row Without many.Whole) { pattern = pattern; suffix = false; listed = false; alters = true; exact = false; global = true }
takes ed.Undo = record (row Without many.NoAddress) { listed = false; alters = true; lines = BringsBack; exact = false }
takes ed.Help = row Without many.NoAddress
takes ed.HelpMode = row Without many.NoAddress
takes ed.PromptMode = row Without many.NoAddress
takes ed.Quit = record (row Without many.NoAddress) { suffix = false; listed = false; ends = Some ends.AsScript }
takes ed.QuitAnyway = record (row Without many.NoAddress) { suffix = false; listed = false; ends = Some ends.Anyway }

-- the given addresses, or the command's own where there are none
abbrev pub given_or : Addresses → Addresses → Addresses
given_or Without default = default
given_or (One a) default = One a
given_or (Comma a b) default = Comma a b
given_or (Semicolon a b) default = Semicolon a b

-- whether a command takes addresses at all
abbrev pub takes_any : Taking → Bool
takes_any many.NoAddress = false
takes_any _ = true

-- addresses stand only before a command that takes some; others are an error, by our choice a fault of syntax
abbrev pub may_have : Addresses → Verb → Bool
may_have Without verb = true
may_have given verb = takes_any (takes verb).taking

-- what marks a line is one of the letters `a` to `z`
abbrev pub marks_by_letter : Verb → Bool
marks_by_letter (ed.Mark letter) = nat_lt letter 26
marks_by_letter _ = true

-- it may stand in the list of a global command
abbrev pub may_be_listed : Verb → Bool
may_be_listed verb = (takes verb).listed

-- it may stand here: in a list, or as a command of the script itself
abbrev pub may_stand : (listed : Bool) → Verb → Bool
may_stand listed verb = not listed || may_be_listed verb

-- a place where a line is split
abbrev pub is_split : Part → Bool
is_split part.Split = true
is_split _ = false

-- its replacement has a split, which can't be written in a list
abbrev pub has_split : Verb → Bool
has_split (ed.Substitute pattern (Some parts) choice form) = list_any is_split parts
has_split _ = false

-- a command that may change the buffer
abbrev pub may_alter : Verb → Bool
may_alter verb = (takes verb).alters

-- a command that needs a file
abbrev pub asks : Verb → Bool
asks verb = (takes verb).asks

-- a command that has a list
abbrev pub is_global : Verb → Bool
is_global verb = (takes verb).global

-- a command that ends the run
abbrev pub ends_run : Verb → Bool
ends_run verb = is_some (takes verb).ends

-- a command of a list
abbrev pub is_listed : Command → Bool
is_listed c = c.listed && marks_by_letter c.verb && may_be_listed c.verb && not (has_split c.verb)

-- a step of a script: only commands of lists are listed
abbrev pub is_step : Step → Bool
is_step x = not x.command.listed && marks_by_letter x.command.verb && list_all is_listed x.list
