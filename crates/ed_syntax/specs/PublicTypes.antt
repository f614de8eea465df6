-- What the public types stand for: the same values as plain data, apart from where they lie in memory.
use Rattle.std.specs.Prelude.{Bool, List, [], ◌∷◌, map, option_map, Option, Some, None}
use Rattle.ed_syntax.specs.Commands as ed
use Rattle.ed_syntax.specs.declared.command.Base.{Base}
use Rattle.ed_syntax.specs.declared.command.Base.TheVariants as base
use Rattle.ed_syntax.specs.declared.command.Address.{Address}
use Rattle.ed_syntax.specs.declared.command.Addresses.{Addresses}
use Rattle.ed_syntax.specs.declared.command.Addresses.TheVariants as addresses
use Rattle.ed_syntax.specs.declared.command.Form.{Form}
use Rattle.ed_syntax.specs.declared.command.Form.TheVariants as form
use Rattle.ed_syntax.specs.declared.command.Verb.{Verb, Row_of-Command, end_of-Command, more_of-Command}
use Rattle.ed_syntax.specs.declared.command.Verb.TheVariants as verb
use Rattle.ed_syntax.specs.declared.command.Command.{Command, out-Command}
use Rattle.ed_syntax.specs.declared.verbs.Alteration.{Alteration}
use Rattle.ed_syntax.specs.declared.verbs.Alteration.TheVariants as alteration
use Rattle.ed_syntax.specs.declared.verbs.DefaultAddresses.{DefaultAddresses}
use Rattle.ed_syntax.specs.declared.verbs.DefaultAddresses.TheVariants as default
use Rattle.ed_syntax.specs.declared.verbs.Takes.{Takes}
use Rattle.ed_syntax.specs.meaning.Verbs as verbs
use Rattle.ed_syntax.specs.meaning.Verbs.{here, next}

-- where an address begins
abbrev pub base_value : Base → ed.Base
base_value (base.Number n) = ed.Number n
base_value base.Current = ed.Current
base_value base.Last = ed.Last
base_value (base.Marked letter) = ed.Marked letter
base_value (base.Forward pattern) = ed.Forward pattern
base_value (base.Backward pattern) = ed.Backward pattern

-- an address
abbrev pub address_value : Address → ed.Address
address_value a = record { base = base_value a.base; offset = a.offset }

-- an address, where one is given
abbrev pub optional_address : Option Address → Option ed.Address
optional_address None = None
optional_address (Some a) = Some (address_value a)

-- the addresses before a command
abbrev pub addresses_value : Addresses → ed.Addresses
addresses_value addresses.Without = ed.Without
addresses_value (addresses.One a) = ed.One (address_value a)
addresses_value (addresses.Comma a b) = ed.Comma (address_value a) (address_value b)
addresses_value (addresses.Semicolon a b) = ed.Semicolon (address_value a) (optional_address b)

-- how a line is written
abbrev pub form_value : Form → ed.Form
form_value form.Plain = ed.Plain
form_value form.Numbered = ed.Numbered
form_value form.Unambiguous = ed.Unambiguous

-- the form of a suffix or a flag, where there is one
abbrev pub suffix_value : Option Form → Option ed.Form
suffix_value None = None
suffix_value (Some f) = Some (form_value f)

-- a command's letter with its parameters; the list of a global command stands beside it
abbrev pub verb_value : Verb → ed.Verb
verb_value (verb.Append text) = ed.Append text
verb_value (verb.Change text) = ed.Change text
verb_value verb.Delete = ed.Delete
verb_value (verb.Insert text) = ed.Insert text
verb_value verb.Join = ed.Join
verb_value (verb.Move target) = ed.Move (address_value target)
verb_value (verb.Copy target) = ed.Copy (address_value target)
verb_value (verb.Mark letter) = ed.Mark letter
verb_value (verb.Substitute pattern replacement which form) = ed.Substitute pattern replacement which (suffix_value form)
verb_value verb.LineNumber = ed.LineNumber
verb_value verb.Null = ed.Null
verb_value (verb.Write f) = ed.Write (form_value f)
verb_value (verb.ReadFile path) = ed.ReadFile path
verb_value (verb.WriteFile path) = ed.WriteFile path
verb_value (verb.Edit path) = ed.Edit path
verb_value (verb.EditAnyway path) = ed.EditAnyway path
verb_value (verb.FileName path) = ed.FileName path
verb_value (verb.Global' sense pattern _ list) = ed.Global sense pattern
verb_value verb.Undo = ed.Undo
verb_value verb.Help = ed.Help
verb_value verb.HelpMode = ed.HelpMode
verb_value verb.PromptMode = ed.PromptMode
verb_value verb.Quit = ed.Quit
verb_value verb.QuitAnyway = ed.QuitAnyway

-- a command of these parts, apart from its list
abbrev pub command_of : Addresses → Verb → Option Form → Bool → ed.Command
command_of given verb suffix listed = record {
  addresses = addresses_value given;
  verb = verb_value verb;
  suffix = suffix_value suffix;
  listed = listed;
}

-- a command, apart from its list
abbrev pub command_value : Command → ed.Command
command_value c = let parts = out-Command c in command_of parts.addresses parts.verb parts.suffix parts.listed

-- the commands of a list in memory
abbrev pub row_value : {n : _} → Row_of-Command n → List ed.Command
row_value end_of-Command = []
row_value (more_of-Command given verb suffix listed rest) = command_of given verb suffix listed ∷ row_value rest

-- the list of a global command; all others have none
abbrev pub list_value : Verb → List ed.Command
list_value (verb.Global' sense pattern _ list) = row_value list
list_value _ = []

-- a command with its list, as a step of a script
abbrev pub step_value : Command → ed.Step
step_value c = record { command = command_value c; list = list_value (out-Command c).verb }

-- commands one after another, as steps
abbrev pub steps_value : List Command → List ed.Step
steps_value commands = map step_value commands

-- what stands for the addresses where none is given
abbrev pub default_value : DefaultAddresses → ed.Addresses
default_value default.Without = ed.Without
default_value default.Current = ed.One here
default_value default.Next = ed.One next
default_value default.Last = ed.One (ed.at_base ed.Last)
default_value default.CurrentTwice = ed.Comma here here
default_value default.CurrentAndNext = ed.Comma here next

-- what a command does to the lines
abbrev pub alteration_value : Alteration → verbs.Alteration
alteration_value alteration.Never = verbs.Never
alteration_value (alteration.Enters text) = verbs.Enters text.now
alteration_value (alteration.Replaces text) = verbs.Replaces text.now
alteration_value alteration.Deletes = verbs.Deletes
alteration_value alteration.Joins = verbs.Joins
alteration_value alteration.Carries = verbs.Carries
alteration_value alteration.Rewrites = verbs.Rewrites
alteration_value alteration.Reads = verbs.Reads
alteration_value alteration.Loads = verbs.Loads
alteration_value alteration.BringsBack = verbs.BringsBack

-- what a command takes
abbrev pub takes_value : Takes → verbs.Takes
takes_value t = record {
  default = default_value t.default;
  taking = t.taking;
  text = t.text;
  target = option_map (λ target. address_value target.now) t.target;
  pattern = option_map (λ pattern. pattern.now) t.pattern;
  path = option_map (λ path. path.now) t.path;
  suffix = t.suffix;
  listed = t.listed;
  asks = t.asks;
  alters = t.alters;
  lines = alteration_value t.lines;
  exact = t.exact;
  ends = t.ends;
  global = t.global;
}
