-- A word that later items spell is needed too.
use Rattle.std.proofs.Common.{ℕ, List, subst, sym}
use Rattle.bre_parse.specs.declared.tree.Node.{Node}
use Rattle.bre_parse.specs.Tree.{sequence_of}
use Rattle.bre_match.specs.declared.short_word.Word.{Word}
use Rattle.bre_match.specs.Passing.{NeedsWord, word_bytes}
use Rattle.bre_match.proofs.NeededWords.{later-needs, needs-nothing, rest_of}
use Rattle.bre_match.proofs.needed_word.needed_word.Goals as goal
use Rattle.bre_match.proofs.needed_word.needed_word.Goals.{then-worth, else-worth}

pub loop-at-init : goal.loop-at-init
loop-at-init c =
    let P : List ℕ → Type 0 = λ w. NeedsWord (sequence_of c.args.items.now) w in
    subst P (sym c.empty-best.ensures.value) (needs-nothing (sequence_of c.args.items.now))

pub loop-at-preserved : goal.loop-at-preserved
loop-at-preserved c =
    let items = c.args.items.now in
    let P : Word → Type 0 = λ w. NeedsWord (sequence_of items) (word_bytes w) in
    let Q : List Node → Type 0 = λ rest. NeedsWord (sequence_of rest) (word_bytes c.front_word-word.result) in
    elim c.if-worth.branch [
      | then-worth w ↦ subst P (sym w.best-is) (later-needs items c.loop-at.at (word_bytes c.front_word-word.result) (subst Q (rest_of c.loop-at.at items) c.front_word-word.ensures.needed))
      | else-worth w ↦ subst P (sym w.best-is) c.loop-at.invariant
    ]
