-- The characters that were passed were appended: those that are left come after them.
use Rattle.std.proofs.Common.{◌≡◌, ◌++◌, codes, drop, string_bytes}
use Rattle.hints.specs.Shown.{front_of}
use Rattle.hints.proofs.words.push_front.Given as goal

abbrev pub invariant-loop-character : goal.invariant-loop-character
invariant-loop-character l =
    l.quote ≡ codes "'" → string_bytes l.word ++ front_of l.left (drop l.character-index l.characters) ≡ string_bytes l.initial.word ++ front_of l.most l.characters
