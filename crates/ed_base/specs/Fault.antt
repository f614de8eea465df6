-- The texts and exit statuses of faults (XCU ed, "Consequences of Errors"; our choice: the texts and the statuses above 0).
use Rattle.std.specs.Prelude.{ℕ, List, codes}
use Rattle.ed_base.specs.declared.fault.Fault.{Fault}
use Rattle.ed_base.specs.declared.fault.Fault.TheVariants.{Syntax, Address, Mark, Pattern, NoMatch, Destination, Name, Unsaved, Undo, Replacement, File, Output, Memory}

-- the text of a fault, which help mode writes
abbrev pub text_of : Fault → List ℕ
text_of Syntax = codes "invalid command"
text_of Address = codes "invalid address"
text_of Mark = codes "mark not set"
text_of Pattern = codes "no previous pattern"
text_of NoMatch = codes "no match"
text_of Destination = codes "invalid destination"
text_of Name = codes "no current file name"
text_of Unsaved = codes "buffer modified"
text_of Undo = codes "nothing to undo"
text_of Replacement = codes "invalid replacement"
text_of File = codes "file refused"
text_of Output = codes "output refused"
text_of Memory = codes "out of memory"

-- the exit status of a run that a fault ends
abbrev pub status_of : Fault → ℕ
status_of Syntax = 1
status_of Address = 1
status_of Mark = 1
status_of Pattern = 1
status_of NoMatch = 1
status_of Destination = 1
status_of Name = 1
status_of Unsaved = 1
status_of Undo = 1
status_of Replacement = 1
status_of File = 3
status_of Output = 3
status_of Memory = 2
