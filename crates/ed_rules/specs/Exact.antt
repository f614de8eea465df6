-- Exact scripts: all that they look at in the buffer is its number of lines, so the rules can know whatever they need.
use Rattle.std.specs.Prelude.{Bool, true, false, ◌&&◌, List, Option, Some, None}
use Rattle.std.specs.List.{list_all}
use Rattle.ed_syntax.specs.Commands as ed
use Rattle.ed_syntax.specs.Commands.{Base, Address, Addresses, Without, One, Comma, Semicolon, Verb, Command, Step}
use Rattle.ed_syntax.specs.meaning.Verbs.{takes}
use Rattle.ed_syntax.specs.spelling.Readable.{is_readable}

-- an address by number begins with a line number, the current line or the last line: with neither a mark nor a search
abbrev pub is_by_number : Base → Bool
is_by_number (ed.Number n) = true
is_by_number ed.Current = true
is_by_number ed.Last = true
is_by_number _ = false

-- each address of a command is by number
abbrev pub are_by_number : Addresses → Bool
are_by_number Without = true
are_by_number (One a) = is_by_number a.base
are_by_number (Comma a b) = is_by_number a.base && is_by_number b.base
are_by_number (Semicolon a None) = is_by_number a.base
are_by_number (Semicolon a (Some b)) = is_by_number a.base && is_by_number b.base

abbrev pub is_target_by_number : Option Address → Bool
is_target_by_number None = true
is_target_by_number (Some a) = is_by_number a.base

-- the verb is exact by its row, which those of `k`, `s`, `r`, `e`, `E`, `g`, `v` and `u` aren't, and the target of `m` and `t` is by number
abbrev pub is_exact_verb : Verb → Bool
is_exact_verb verb = (takes verb).exact && is_target_by_number (takes verb).target

-- an exact command has such addresses and such a verb, and is one that can be read
abbrev pub is_exact : Command → Bool
is_exact c = are_by_number c.addresses && is_exact_verb c.verb && is_readable c

-- each command of an exact script is exact
abbrev pub are_exact : List Step → Bool
are_exact steps = list_all (λ (x : Step). is_exact x.command) steps
