-- What the first items spell is needed, and one item more spells a byte more.
use Rattle.std.proofs.Common.{drop, sym, ◌∙◌}
use Rattle.bre_parse.specs.Tree.{sequence_of}
use Rattle.bre_match.specs.Passing.{word_bytes}
use Rattle.bre_match.proofs.NeededWords.{front-needs, spells-more}
use Rattle.bre_match.proofs.needed_word.front_word.Goals as goal

pub returns-then-is_full : goal.returns-then-is_full
returns-then-is_full c = record {
  needed = front-needs (sequence_of c.args.items.now) (sequence_of (drop c.loop-item.item-index c.args.items.now)) (word_bytes c.loop-item.word) c.loop-item.invariant;
}

pub returns-in-None : goal.returns-in-None
returns-in-None c = record {
  needed = front-needs (sequence_of c.args.items.now) (sequence_of (drop c.loop-item.item-index c.args.items.now)) (word_bytes c.loop-item.word) c.loop-item.invariant;
}

pub loop-item-preserved : goal.loop-item-preserved
loop-item-preserved c =
    spells-more c.args.items.now c.loop-item.item-index c.in-Some.byte c.item-item.result (word_bytes c.loop-item.word) (word_bytes c.push.new.self)
    (sequence_of c.args.items.now) c.loop-item-test.true c.item-item.is c.in-Some.ensures.value c.push.ensures.pushed c.loop-item.invariant

pub returns : goal.returns
returns c = record {
  needed = front-needs (sequence_of c.args.items.now) (sequence_of (drop c.loop-item.item-index c.args.items.now)) (word_bytes c.loop-item.word) c.loop-item.invariant;
}
