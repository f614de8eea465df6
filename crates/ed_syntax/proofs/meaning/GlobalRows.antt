-- Worked runs of `g` and `v`, and of their lists.
use Rattle.std.specs.Prelude.{◌≡◌, refl, true, [], ◌∷◌, Some, None, codes, List}
use Rattle.std.specs.Fmt.{digits}
use Rattle.ed_base.specs.declared.fault.Fault.TheVariants as fault
use Rattle.ed_syntax.specs.declared.request.Answer.TheVariants as answer
use Rattle.ed_syntax.specs.declared.request.Request.TheVariants as request
use Rattle.ed_syntax.proofs.meaning.Worked.{edited, ends, fails, ran, ended, options}
use Rattle.ed_syntax.proofs.meaning.Worked.{Row, row}

-- globals
globals : List Row
unfolding digits
globals =
    row (ran (codes "g/x/p\nw\nq\n") (options true None) (answer.Bytes [] ∷ answer.Done ∷ []) ≡ ended [] (request.Read (codes "F") ∷ request.Write (codes "F") [] ∷ []) 0) refl  -- no line of an empty file
    ∷ row (edited [] (codes ",p\n") ≡ fails (codes "?\n") fault.Address) refl  -- addresses in an empty buffer
    ∷ row (edited (codes "a\nb\nc\n") (codes "g/^/m0\n,p\nQ\n") ≡ ends (codes "c\nb\na\n") 3) refl  -- lines turned round
    ∷ row (edited (codes "x\nx\ny\n") (codes "g/x/d\n,p\nQ\n") ≡ ends (codes "y\n") 1) refl  -- lines deleted
    ∷ row (edited (codes "a\nb\nc\n") (codes "v/b/d\n,p\nQ\n") ≡ ends (codes "b\n") 1) refl  -- other lines deleted
    ∷ row (edited (codes "b\nx1\nc\nx2\n") (codes "g/x/$m0\\\n.=\n,p\nQ\n") ≡ ends (codes "1\n1\nc\nx2\nb\nx1\n") 4) refl  -- moved line keeps its flag
    ∷ row (edited (codes "a\nb\na\n") (codes "g/a/t.\n,p\nQ\n") ≡ ends (codes "a\na\nb\na\na\n") 5) refl  -- copies have no flag
    ∷ row (edited (codes "a\nb\nc\n") (codes "2\ng/z/1p\n.=\nQ\n") ≡ ends (codes "b\n2\n") 3) refl  -- nothing flagged nothing current
    ∷ row (edited (codes "a\nb\na\n") (codes "2,$g/a/s/a/x/\n,p\nQ\n") ≡ ends (codes "a\nb\nx\n") 3) refl  -- addresses of a global
    ∷ row (edited (codes "a\nb\na\n") (codes "g/a/s//x/p\nQ\n") ≡ ends (codes "x\nx\n") 3) refl  -- remembered pattern of a global
    ∷ row (edited (codes "a\nb\na\n") (codes "g/a/p\\\n9p\n") ≡ fails (codes "a\n?\n") fault.Address) refl  -- fault in a list ends the run
    ∷ row (edited (codes "a\nb\nc\n") (codes "g//p\n") ≡ fails (codes "?\n") fault.Pattern) refl  -- no pattern for a global
    ∷ row (edited (codes "a\nb\nc\n") (codes "g/b/H\nx\n") ≡ fails (codes "?\ninvalid command\n") fault.Syntax) refl  -- help mode turned in a list
    ∷ row (edited (codes "a\nb\nc\n") (codes "g/b/P\np\nQ\n") ≡ ends (codes "*b\n*") 3) refl  -- prompting turned in a list
    ∷ row (ran (codes "g/a/.w G\nQ\n") (options true None) (answer.Bytes (codes "a\na\n") ∷ answer.Done ∷ answer.Done ∷ []) ≡ ended [] (request.Read (codes "F") ∷ request.Write (codes "G") (codes "a\n") ∷ request.Write (codes "G") (codes "a\n") ∷ []) 2) refl  -- file written from a list
    ∷ row (ran (codes "g/a/r G\n,p\nQ\n") (options true None) (answer.Bytes (codes "a\nb\n") ∷ answer.Bytes (codes "x") ∷ []) ≡ ended (codes "a\nb\nx\n") (request.Read (codes "F") ∷ request.Read (codes "G") ∷ []) 3) refl  -- file read in a list
    ∷ row (edited (codes "a\n") (codes "0g/a/p\n") ≡ fails (codes "?\n") fault.Address) refl  -- line zero not taken
    ∷ row (ran (codes "g/./p\\\n=\nQ\n") (options true (Some (codes ">"))) (answer.Bytes (codes "a\nb\n") ∷ []) ≡ ended (codes ">a\n2\nb\n2\n>") (request.Read (codes "F") ∷ []) 2) refl  -- no prompts in a list
    ∷ row (edited (codes "a\nb\na\n") (codes "g/b/=\n1\n//=\nQ\n") ≡ ends (codes "3\na\n2\n") 3) refl  -- pattern of a global searched for
    ∷ row (edited [] (codes "v/x/p\nQ\n") ≡ ends [] 0) refl  -- other lines of none
    ∷ []

-- lists
lists : List Row
unfolding digits
lists =
    row (edited (codes "a\nb\n") (codes "g/a/a\\\nx\n,p\nQ\n") ≡ ends (codes "a\nx\nb\n") 3) refl  -- text in a list
    ∷ row (edited (codes "a\nb\n") (codes "g/a/a\\\nx\\\n.\\\np\nQ\n") ≡ ends (codes "x\n") 3) refl  -- text up to a dot in a list
    ∷ row (edited (codes "a\nb\n") (codes "g/a\nQ\n") ≡ ends (codes "a\n") 2) refl  -- list left out
    ∷ row (edited (codes "a\nb\n") (codes "g/a/ \t\nQ\n") ≡ ends (codes "a\n") 2) refl  -- list of blanks
    ∷ row (edited (codes "a\nb\n") (codes "g/a/\nQ\n") ≡ ends (codes "a\n") 2) refl  -- list left out after its delimiter
    ∷ row (edited (codes "a\nb\nc\n") (codes "g/a/\\\n\n.=\nQ\n") ≡ ends (codes "b\nc\n3\n") 3) refl  -- null command in a list
    ∷ row (edited (codes "a\nb\n") (codes "g/a/p\\") ≡ ends (codes "a\n") 2) refl  -- backslash at the end of the script
    ∷ row (edited (codes "a\nb\n") (codes "g/a/s/a/\\\\/p\\\n.=\nQ\n") ≡ ends (codes "\\\n1\n") 2) refl  -- paired backslashes end a list
    ∷ row (edited (codes "a\nb\n") (codes "g/a\\\np\n") ≡ fails (codes "?\n") fault.Syntax) refl  -- pattern that ends in a backslash
    ∷ row (edited (codes "a\nb\nc\n") (codes "g/a/u\n") ≡ fails (codes "?\n") fault.Syntax) refl  -- undo in a list
    ∷ row (edited (codes "a\nb\nc\n") (codes "g/a/g/b/p\n") ≡ fails (codes "?\n") fault.Syntax) refl  -- global in a list
    ∷ row (edited (codes "a\nb\nc\n") (codes "p\ng/a/p\\\nx\\\np\nQ\n") ≡ fails (codes "c\n?\n") fault.Syntax) refl  -- fault of a list is its globals
    ∷ row (edited (codes "a,b\n") (codes "g/,/s/,/\\\n/p\n") ≡ fails (codes "ab\n?\n") fault.NoMatch) refl  -- split not written in a list
    ∷ row (edited (codes "a\n") (codes "g/a/s/a/\\\\\\\n.=\nQ\n") ≡ ends (codes "\\\n1\n") 1) refl  -- escaped backslash before the next line
    ∷ row (edited (codes "a\n") (codes "g/a/s/a/\\\\\n.=\nQ\n") ≡ ends (codes "\\\n1\n") 1) refl  -- even backslashes end a list
    ∷ row (edited (codes "a/b\n") (codes "g,/,p\nQ\n") ≡ ends (codes "a/b\n") 1) refl  -- delimiter of a global
    ∷ row (edited (codes "a\n") (codes "gaxap\n") ≡ fails (codes "?\n") fault.Syntax) refl  -- letter is no delimiter
    ∷ row (edited (codes "a\n") (codes "g\n") ≡ fails (codes "?\n") fault.Syntax) refl  -- global without a pattern
    ∷ row (edited (codes "a\nb\nc\n") (codes "g/a/ \\\n \nQ\n") ≡ ends (codes "b\nc\n") 3) refl  -- blank lines of a list are null commands
    ∷ row (edited (codes "a\n") (codes "g/a/E\n") ≡ fails (codes "?\n") fault.Syntax) refl  -- edit in a list
    ∷ row (edited (codes "a\n") (codes "g/a/Q\n") ≡ fails (codes "?\n") fault.Syntax) refl  -- end in a list
    ∷ row (edited (codes "a\n") (codes "g/a/v/b/p\n") ≡ fails (codes "?\n") fault.Syntax) refl  -- other lines in a list
    ∷ []

-- substitution in a list
substitution_in_a_list : List Row
unfolding digits
substitution_in_a_list =
    row (edited (codes "a\nb\nc\n") (codes "g/a/s/z/y/\n.=\nQ\n") ≡ ends (codes "1\n") 3) refl  -- no match in a list
    ∷ row (edited (codes "a\nb\nc\n") (codes "g/a/s/b/y/\n//p\ns//%/p\nQ\n") ≡ ends (codes "b\ny\n") 3) refl  -- pattern remembered without a match
    ∷ row (edited (codes "a,b\n") (codes "s/,/\\\n/\ng/a/s/a/%/\n") ≡ fails (codes "?\n") fault.Replacement) refl  -- split remembered for a list
    ∷ row (edited (codes "a\nb\n") (codes "g/z/s/z/y/\nq\n") ≡ ends [] 2) refl  -- nothing changed
    ∷ row (edited (codes "a\nb\nc\n") (codes "g/a/2;3s/z/y/p\\\n.=\nQ\n") ≡ ends (codes "2\n") 3) refl  -- idle substitution moves by its pair
    ∷ []
