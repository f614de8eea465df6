-- What a searcher looks for.
use Rattle.bre_parse.specs.Tree.{Tree}
use Rattle.bre_parse.specs.Bre.{bre_tree}
use Rattle.bre_match.specs.declared.searcher.Searcher.{Searcher}

-- the pattern that it was made for, by its tree
abbrev pub searched : Searcher → Tree
searched searcher = bre_tree searcher.pattern.now
