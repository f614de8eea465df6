-- The pattern that is left, after the bytes so far, is all of it.
use Rattle.std.proofs.Common.{length}
use Rattle.ed_syntax.specs.reading.Tokens.{quoted}
use Rattle.ed_syntax.proofs.reader.QuotedSteps.{QuotedLeft}
use Rattle.landmarks.proofs.key_text.quoted.Given as goal

abbrev pub invariant-bytes : goal.invariant-bytes
invariant-bytes l = QuotedLeft l.delimiter l.left l.text (quoted (length l.bytes) l.delimiter l.bytes)

abbrev pub decreases-bytes : goal.decreases-bytes
decreases-bytes l = length l.left
