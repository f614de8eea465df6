use Rattle.std.proofs.Common.{◌≡◌, ◌++◌, drop}
use Rattle.ed_calls.specs.Explaining.{on_one_line}
use Rattle.ed_calls.proofs.explaining.lines.push_words.Given as goal

-- the words before this byte are in
abbrev pub invariant-loop-byte : goal.invariant-loop-byte
invariant-loop-byte l = l.text ++ on_one_line (drop l.byte-index l.words) ≡ l.fn.text ++ on_one_line l.words
