-- Global commands that are spelled by their bytes, step by step.
use Rattle.std.specs.Prelude.{refl, ℕ, true, List, [], ◌∷◌, None, codes}
use Rattle.std.proofs.Common.{rules}
use Rattle.ed_syntax.specs.declared.command.Sense.TheVariants as sense
use Rattle.ed_syntax.specs.Commands as ed
use Rattle.ed_syntax.specs.Commands.{Without}
use Rattle.ed_syntax.specs.spelling.Quoting as quoting
use Rattle.ed_syntax.specs.spelling.Addressing as addressing
use Rattle.ed_syntax.specs.spelling.Parameters as parameter
use Rattle.ed_syntax.specs.spelling.Spellings as spelt
use Rattle.ed_syntax.specs.spelling.Spellings.{SpellsCommand, Spells, print, global_of}

-- a text in a list ends with the list
text_in_a_list : SpellsCommand true (codes "a\nx\n") [] (record { addresses = Without; verb = ed.Append (codes "x" ∷ []); suffix = None; listed = true })
text_in_a_list =
    spelt.command (codes "a") (codes "a") [] (codes "x\n") [] _ _ _ (search rules)
    (addressing.single (codes "a") (codes "a") None (addressing.none _ (search rules)) (search rules))
    (spelt.entered 97 [] (codes "x\n") [] (ed.Append []) (codes "x" ∷ []) (0, search rules, refl) refl (parameter.line (codes "x") [] [] [] (search rules) (search rules) parameter.over))
    (search rules) (search rules) (spelt.none [] (search rules))

-- a global with a list on two lines, the second of which is a text
global : Spells (codes "g//a\\\nx\n") (codes "z\n") (record { command = global_of Without sense.Matching None; list = record { addresses = Without; verb = ed.Append (codes "x" ∷ []); suffix = None; listed = true } ∷ [] })
global =
    spelt.global (codes "g//a\\") (codes "/a\\") (codes "/a\\") (codes "a\\") (codes "x\n") (codes "z\n") (codes "a\nx\n") 103 47 _ _ _ _ (search rules)
    (addressing.single (codes "g//a\\") (codes "g//a\\") None (addressing.none _ (search rules)) (search rules))
    parameter.matching (search rules) (quoting.remembered _ _ (quoting.closed (codes "a\\"))) (quoting.closed (codes "a\\"))
    (spelt.further (codes "a") (codes "x") [] (codes "z\n") (codes "x\n") (search rules) (search rules) (spelt.last (codes "x") (codes "z\n") (search rules)))
    (spelt.commands _ _ (search rules) (spelt.next (codes "a\nx\n") [] [] _ _ text_in_a_list (spelt.over [])))

-- a list that is left out with its delimiter
print_alone : Spells (codes "v/\n") [] (record { command = global_of Without sense.Others None; list = print ∷ [] })
print_alone =
    spelt.global (codes "v/") [] [] [] [] [] (codes "\n") 118 47 _ _ _ _ (search rules)
    (addressing.single (codes "v/") (codes "v/") None (addressing.none _ (search rules)) (search rules))
    parameter.others (search rules) (quoting.remembered _ _ quoting.left_open) quoting.left_open (spelt.last [] [] (search rules))
    (spelt.print_alone (codes "\n") refl)

-- an empty line of a longer list is a null command
null_listed : (rest : List ℕ) → SpellsCommand true (codes "\n") rest (record { addresses = Without; verb = ed.Null; suffix = None; listed = true })
null_listed rest =
    spelt.command [] [] [] [] rest _ _ _ (search rules) (addressing.single [] [] None (addressing.none _ (search rules)) (search rules)) (spelt.null rest)
    (search rules) (search rules) (spelt.none [] (search rules))

empty_lines : Spells (codes "g//\\\n\n") (codes "z\n") (record {
  command = global_of Without sense.Matching None;
  list = record { addresses = Without; verb = ed.Null; suffix = None; listed = true } ∷ record { addresses = Without; verb = ed.Null; suffix = None; listed = true } ∷ [];
})
empty_lines =
    spelt.global (codes "g//\\") (codes "/\\") (codes "/\\") (codes "\\") (codes "\n") (codes "z\n") (codes "\n\n") 103 47 _ _ _ _ (search rules)
    (addressing.single (codes "g//\\") (codes "g//\\") None (addressing.none _ (search rules)) (search rules))
    parameter.matching (search rules) (quoting.remembered _ _ (quoting.closed (codes "\\"))) (quoting.closed (codes "\\"))
    (spelt.further [] [] [] (codes "z\n") (codes "\n") (search rules) (search rules) (spelt.last [] (codes "z\n") (search rules)))
    (spelt.commands _ _ (search rules) (spelt.next (codes "\n") (codes "\n") [] _ _ (null_listed (codes "\n")) (spelt.next (codes "\n") [] [] _ _ (null_listed []) (spelt.over []))))

-- a backslash at the end of the script joins nothing
cut_off : Spells (codes "g//\\\n") [] (record { command = global_of Without sense.Matching None; list = print ∷ [] })
cut_off =
    spelt.global (codes "g//\\") (codes "/\\") (codes "/\\") (codes "\\") [] [] (codes "\n") 103 47 _ _ _ _ (search rules)
    (addressing.single (codes "g//\\") (codes "g//\\") None (addressing.none _ (search rules)) (search rules))
    parameter.matching (search rules) (quoting.remembered _ _ (quoting.closed (codes "\\"))) (quoting.closed (codes "\\"))
    (spelt.cut_off [] (search rules)) (spelt.print_alone (codes "\n") refl)
