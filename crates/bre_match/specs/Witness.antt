-- What several patterns are to answer of one text, and whether a text answers so (XBD 9.1, "Regular Expression Definitions").
use Rattle.std.specs.Prelude.{◌≡◌, ℕ, List, Option, Some, None, is_some}
use Rattle.std.specs.List.{All}
use Rattle.bre_parse.specs.Bre.{bre_tree}
use Rattle.bre_parse.specs.Match.{match_from}
use Rattle.bre_match.specs.declared.witness.Answer.{Answer}
use Rattle.bre_match.specs.declared.witness.Witness.{Witness}
use Rattle.bre_match.specs.declared.witness.Witness.TheVariants as kind

-- a text has a match of the pattern exactly if that is the answer
abbrev pub IsAnswered : List ℕ → Answer → Type 0
IsAnswered text answer = is_some (match_from (bre_tree answer.pattern.now) text 0) ≡ answer.matches

-- no text answers each of these patterns as is said, whatever numbers it holds
abbrev pub NoneAnswers : List Answer → Type 0
NoneAnswers answers = (text : List ℕ) → All (IsAnswered text) answers → ⊥

-- the text that is handed out, if one is
abbrev pub witness_text : Witness → Option (List ℕ)
witness_text (kind.Text text) = Some text.items
witness_text kind.NoText = None
witness_text kind.Unknown = None
