-- What a searcher learns of its pattern, and what stays true of it while no searcher has it.
use Rattle.std.specs.Prelude.{◌≡◌, false, true, IsSome}
use Rattle.std.proofs.Props.{props}
use Rattle.bre_parse.specs.Tree.{Tree}
use Rattle.bre_parse.specs.Groups.{refers}
use Rattle.bre_parse.specs.Literal.{literal}
use Rattle.bre_match.specs.declared.learned.Learned.{Learned}
use Rattle.bre_match.specs.declared.state.Starts.TheVariants as kind
use Rattle.bre_match.specs.Parts.{part_of}
use Rattle.bre_match.specs.Automata.{Serves, Serves-prop}
use Rattle.bre_match.specs.Passing.{NeedsWord, word_bytes}

-- What was learned is true of the pattern with this tree: automata are used only where it has no back-reference and isn't a word, and
-- both serve it, the one for the matches of a text and the one for the ends of matches; and each way has the needed word.
pub record Learns (learned : Learned) (tree : Tree) : Type 0 where
  pub free : learned.is_plain ≡ false → refers tree ≡ false
  pub word : IsSome (literal tree) → learned.is_plain ≡ true
  pub serves : Serves kind.Every (part_of tree) learned.states.items learned.table.items
  pub ends_serve : Serves kind.First (part_of tree) learned.end_states.items learned.end_table.items
  pub needed : NeedsWord tree (word_bytes learned.word)

-- there is at most one proof that it is
pub Learns-prop : (learned : Learned) (tree : Tree) → IsProp (Learns learned tree)
Learns-prop learned tree = Prim.hlevel (props, Serves-prop)
