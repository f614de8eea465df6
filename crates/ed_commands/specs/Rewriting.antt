-- Lines that are rewritten one by one, what is used for that, and what undo keeps of it.
use Rattle.std.specs.Prelude.{ℕ, Bool, List, Option, Some, None, Result, Ok}
use Rattle.ed_base.specs.declared.fault.Fault.{Fault}
use Rattle.ed_syntax.specs.declared.replacement.Part.{Part}
use Rattle.ed_syntax.specs.meaning.States.{State, Kept}
use Rattle.ed_syntax.specs.meaning.Values.{◌>>◌, used_pattern}
use Rattle.ed_syntax.specs.meaning.SubstitutedLines.{used_replacement}
use Rattle.ed_commands.specs.Earlier.{Earlier, earlier_after}

-- what is kept of earlier buffers once lines were rewritten; where none was, what was kept before
abbrev pub earlier_of_rewritten : (made : Option ℕ) → (listed : Bool) → Kept → Earlier → Earlier
earlier_of_rewritten None listed before e = e
earlier_of_rewritten (Some n) listed before e = earlier_after listed before e

-- the state in which `s` remembers the replacement and the pattern that it uses, or why it has none
abbrev pub remembering : (listed : Bool) → (pattern : Option (List ℕ)) → (replacement : Option (List Part)) → State → Result State Fault
remembering listed pattern replacement s =
    used_replacement listed replacement s >> λ parts. used_pattern pattern s >> λ text. Ok (record s { pattern = Some text; replacement = Some parts })
