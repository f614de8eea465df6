use Rattle.std.proofs.Common.{◌≡◌, ◌++◌, take}
use Rattle.std.specs.List.{flat_map}
use Rattle.cert_check.specs.text.Text.{byte_text}
use Rattle.cert_check.proofs.text.words.push_text.Given as goal

abbrev pub invariant-loop-byte : goal.invariant-loop-byte
invariant-loop-byte g l = g.W.TextWriter.written l.out ≡ g.W.TextWriter.written l.initial.out ++ flat_map byte_text (take l.byte-index l.text)
