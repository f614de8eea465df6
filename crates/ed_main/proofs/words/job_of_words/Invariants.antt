-- The words before were taken as texts.
use Rattle.std.proofs.Common.{◌≡◌, map, take}
use Rattle.std.specs.Prelude.{string_bytes}
use Rattle.ed_main.proofs.words.job_of_words.Given as goal

abbrev pub invariant-words : goal.invariant-words
invariant-words l = map (λ text. text.now) l.texts.items ≡ map (λ word. string_bytes word) (take l.word-index l.words)
