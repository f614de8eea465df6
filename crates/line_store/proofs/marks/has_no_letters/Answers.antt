-- Two lists of letters are the same where each letter is.
use Rattle.std.proofs.lemmas.Slice.Eq.{slice_eq-Decides}
use Rattle.std.specs.Cmp.{booleans_Decides}
use Rattle.ed_base.specs.Buffer.{no_letters}
use Rattle.line_store.proofs.marks.has_no_letters.Goals as goal

pub returns : goal.returns
returns c = record { exact = slice_eq-Decides booleans_Decides c.args.letters.now no_letters c.eq.result c.eq.ensures }
