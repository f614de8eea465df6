use Rattle.std.proofs.Common.{◌≡◌, ◌++◌, take}
use Rattle.std.specs.List.{flat_map}
use Rattle.cert_check.specs.text.Text.{spaced}
use Rattle.cert_check.proofs.texts.Known.{placed_words}
use Rattle.cert_check.proofs.text.words.push_zone.Given as goal

-- what is written of the bounds before this one
abbrev pub invariant-loop-entry : goal.invariant-loop-entry
invariant-loop-entry g l = g.W.TextWriter.written l.out ≡ g.W.TextWriter.written l.initial.out ++ spaced (flat_map placed_words (take l.entry-index l.entry-items))
