-- What the reader's functions give, as plain data.
use Rattle.std.specs.Prelude.{ℕ, Bool, true, false, List, map, Option, Some, None, nat_eq}
use Rattle.ed_syntax.specs.Commands as ed
use Rattle.ed_syntax.specs.declared.command.Base.{Base}
use Rattle.ed_syntax.specs.declared.command.Verb.{Verb}
use Rattle.ed_syntax.specs.declared.command.Command.{Command}
use Rattle.ed_syntax.specs.declared.heading.Order.{Order}
use Rattle.ed_syntax.specs.declared.command.Sense.{Sense}
use Rattle.ed_syntax.specs.PublicTypes.{base_value, verb_value, suffix_value, command_value, list_value, step_value}
use Rattle.ed_syntax.specs.spelling.Characters.{comma_byte}
use Rattle.ed_syntax.specs.spelling.Addressing.{comma, semicolon}
use Rattle.ed_syntax.specs.spelling.Spellings.{global_of}
use Rattle.ed_syntax.specs.reading.Tokens.{◌>>=◌}
use Rattle.ed_syntax.specs.reading.ReadCommands.{Heading, Taken}

-- a base, where one is given
abbrev pub optional_base : Option Base → Option ed.Base
optional_base None = None
optional_base (Some base) = Some (base_value base)

-- the addresses around a `,` or else a `;`
abbrev pub around : (separator : ℕ) → Option ed.Address → Option ed.Address → ed.Addresses
around separator first second = elim (nat_eq separator comma_byte) [ true ↦ comma first second | false ↦ semicolon first second ]

-- a verb, where there is one
abbrev pub optional_verb : Option Verb → Option ed.Verb
optional_verb None = None
optional_verb (Some verb) = Some (verb_value verb)

-- what stands on a command's own line, with these addresses, where it can be read
abbrev pub heading_before : ed.Addresses → Option Order → Option Heading
heading_before given None = None
heading_before given (Some order) = Some (record { addresses = given; verb = verb_value order.verb; suffix = suffix_value order.suffix })

-- a command with these addresses before the lines after it, where it can be read
abbrev pub order_before : (listed : Bool) → ed.Addresses → Option Order → List (List ℕ) → Taken ed.Command
order_before listed given None later = None
order_before listed given (Some order) later =
    Some (record { addresses = given; verb = verb_value order.verb; suffix = suffix_value order.suffix; listed = listed }, later)

-- a command before the lines after it, where it can be read
abbrev pub command_before : Option Command → List (List ℕ) → Taken ed.Command
command_before None later = None
command_before (Some c) later = Some (command_value c, later)

-- the same as a step, with its list
abbrev pub step_before : Option Command → List (List ℕ) → Taken ed.Step
step_before None later = None
step_before (Some c) later = Some (step_value c, later)

-- commands, where they can be read
abbrev pub optional_commands : Option (List Command) → Option (List ed.Command)
optional_commands None = None
optional_commands (Some cs) = Some (map command_value cs)

-- a global command with its list after these addresses, before the lines after it, where it can be read
abbrev pub global_before : ed.Addresses → Option Verb → List (List ℕ) → Taken ed.Step
global_before given None later = None
global_before given (Some verb) later =
    Some (record { command = record { addresses = given; verb = verb_value verb; suffix = None; listed = false }; list = list_value verb }, later)

-- a global command with these commands for its list, before the lines after it, where they can be read
abbrev pub listed_before : ed.Addresses → Sense → Option (List ℕ) → Option (List Command) → List (List ℕ) → Taken ed.Step
listed_before given which pattern cs later = optional_commands cs >>= λ cs. Some (record { command = global_of given which pattern; list = cs }, later)
