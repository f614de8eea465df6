use Rattle.ed_syntax.proofs.reader.LawLemmas.{what_is_read, what_is_spelled}
use Rattle.ed_syntax.proofs.spelling.scripts_are_read_as_spelled.Goals as goal

pub returns : goal.returns
returns c = record { spelled = what_is_read; read = what_is_spelled }
