-- Which letters name which commands, where nothing or a path follows them on their line (XCU ed, "Commands in ed").
use Rattle.std.specs.Prelude.{ℕ, List, [], ◌∷◌, Option}
use Rattle.ed_syntax.specs.Commands as ed
use Rattle.ed_syntax.specs.Commands.{Verb}
use Rattle.ed_syntax.specs.spelling.Characters.{equals_sign}
use Rattle.ed_syntax.specs.spelling.Letters.{capital_e, capital_h, capital_p, capital_q, letter_a, letter_c, letter_d, letter_e, letter_f}
use Rattle.ed_syntax.specs.spelling.Letters.{letter_h, letter_i, letter_j, letter_l, letter_n, letter_p, letter_q, letter_r, letter_u, letter_w}

-- the commands whose letter has no parameters on its line, before their texts are read
abbrev pub plain_verbs : List (ℕ × Verb)
plain_verbs =
    (letter_a, ed.Append [])
    ∷ (letter_c, ed.Change [])
    ∷ (letter_d, ed.Delete)
    ∷ (letter_i, ed.Insert [])
    ∷ (letter_j, ed.Join)
    ∷ (letter_l, ed.Write ed.Unambiguous)
    ∷ (letter_n, ed.Write ed.Numbered)
    ∷ (letter_p, ed.Write ed.Plain)
    ∷ (equals_sign, ed.LineNumber)
    ∷ (letter_u, ed.Undo)
    ∷ (letter_h, ed.Help)
    ∷ (capital_h, ed.HelpMode)
    ∷ (capital_p, ed.PromptMode)
    ∷ (letter_q, ed.Quit)
    ∷ (capital_q, ed.QuitAnyway)
    ∷ []

-- the commands on files, with this path
abbrev pub file_verbs : Option (List ℕ) → List (ℕ × Verb)
file_verbs path =
    (letter_e, ed.Edit path)
    ∷ (capital_e, ed.EditAnyway path)
    ∷ (letter_f, ed.FileName path)
    ∷ (letter_r, ed.ReadFile path)
    ∷ (letter_w, ed.WriteFile path)
    ∷ []

-- the verb with this text
abbrev pub entering : List (List ℕ) → Verb → Verb
entering text (ed.Append _) = ed.Append text
entering text (ed.Change _) = ed.Change text
entering text (ed.Insert _) = ed.Insert text
entering text verb = verb
