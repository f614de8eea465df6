-- Worked runs, computed from the bytes of script and file; the outputs are those that the standard says.
use Rattle.std.specs.Prelude.{◌≡◌, refl, ℕ, true, false, List, [], ◌∷◌, ◌++◌, Some, None, Ok, codes, replicate}
use Rattle.std.specs.Fmt.{digits}
use Rattle.bre_parse.specs.Tree as tree
use Rattle.ed_base.specs.declared.fault.Fault.TheVariants as fault
use Rattle.ed_syntax.specs.declared.request.Answer.TheVariants as answer
use Rattle.ed_syntax.specs.meaning.Progress.{Ends}
use Rattle.ed_syntax.proofs.meaning.Worked.{options, ran, edited, ends, fails}
use Rattle.ed_syntax.proofs.meaning.Worked.{Row, row}

abbrev pub letters : List ℕ
letters = codes "a\nb\nc\n"

-- commands
commands : List Row
commands =
    row (edited letters (codes "2d\n,p\nQ\n") ≡ ends (codes "a\nc\n") 2) refl  -- second line deleted
    ∷ row (edited letters (codes "1,2a\nz\n.\n,p\nQ\n") ≡ ends (codes "a\nb\nz\nc\n") 4) refl  -- text after last address
    ∷ row (edited letters (codes "0a\nx\ny\n.\n,p\nQ\n") ≡ ends (codes "x\ny\na\nb\nc\n") 5) refl  -- text before first line
    ∷ row (edited letters (codes "1a\nx\ny\n.\np\nQ\n") ≡ ends (codes "y\n") 5) refl  -- last line entered is current
    ∷ row (edited [] (codes "a\nx\n.\n,p\nQ\n") ≡ ends (codes "x\n") 1) refl  -- text into empty buffer
    -- the order of two addresses is tested before `c`, not before `i`
    ∷ row (edited letters (codes "1,0i\nx\n.\n,p\nQ\n") ≡ ends (codes "x\na\nb\nc\n") 4) refl  -- text before line zero
    ∷ row (edited letters (codes "1,0c\nx\n.\n") ≡ fails (codes "?\n") fault.Address) refl  -- change up to line zero
    -- an address before a command is no current line for its target
    ∷ row (edited letters (codes "1t.\n,p\nQ\n") ≡ ends (codes "a\nb\nc\na\n") 4) refl  -- target at the line that was current
    ∷ row (edited letters (codes "1m+\n") ≡ fails (codes "?\n") fault.Address) refl  -- target from the line that was current
    -- without text the addressed line is current, and the buffer isn't changed
    ∷ row (edited letters (codes "1a\n.\np\n") ≡ ends (codes "a\n") 3) refl  -- no text
    ∷ row (edited letters (codes "2d\np\nQ\n") ≡ ends (codes "c\n") 2) refl  -- line after deleted is current
    ∷ row (edited letters (codes "$d\np\nQ\n") ≡ ends (codes "b\n") 2) refl  -- new last line is current
    ∷ row (edited letters (codes ",d\np\n") ≡ fails (codes "?\n") fault.Address) refl  -- all deleted
    ∷ row (edited letters (codes "1p\nd\n,p\nQ\n") ≡ ends (codes "a\nb\nc\n") 2) refl  -- current line deleted
    ∷ row (edited letters (codes "1,2p\np\nQ\n") ≡ ends (codes "a\nb\nb\n") 3) refl  -- last written is current
    ∷ []

-- addresses
addresses : List Row
addresses =
    row (edited letters (codes "p\n.p\n$p\nQ\n") ≡ ends (codes "c\nc\nc\n") 3) refl  -- last line read is current
    ∷ row (edited letters (codes "1,2p\nQ\n") ≡ ends (codes "a\nb\n") 3) refl  -- pair of both
    ∷ row (edited letters (codes ",2p\nQ\n") ≡ ends (codes "a\nb\n") 3) refl  -- pair from first line
    ∷ row (edited letters (codes "2,p\nQ\n") ≡ ends (codes "b\n") 3) refl  -- pair of one line
    ∷ row (edited letters (codes "2p\n.,$p\nQ\n") ≡ ends (codes "b\nb\nc\n") 3) refl  -- pair of current and last
    ∷ row (edited letters (codes "000000001p\nQ\n") ≡ ends (codes "a\n") 3) refl  -- nine digits
    ∷ row (edited letters (codes "0000000001p\n") ≡ fails (codes "?\n") fault.Syntax) refl  -- ten digits
    ∷ row (edited letters (codes "1,0000000002p\n") ≡ fails (codes "?\n") fault.Syntax) refl  -- ten digits after comma
    ∷ row (edited letters (codes " \t1 \t,\t 2\t p \t\nQ\n") ≡ ends (codes "a\nb\n") 3) refl  -- blanks around addresses
    ∷ row (edited letters (codes "1 2p\n") ≡ fails (codes "?\n") fault.Syntax) refl  -- blank within number
    ∷ row (edited letters (codes "9p\n") ≡ fails (codes "?\n") fault.Address) refl  -- above last line
    ∷ row (edited letters (codes "3,1p\n") ≡ fails (codes "?\n") fault.Address) refl  -- second before first
    ∷ row (edited letters (codes "0p\n") ≡ fails (codes "?\n") fault.Address) refl  -- no line zero
    ∷ row (edited letters (codes "0,2d\n") ≡ fails (codes "?\n") fault.Address) refl  -- no range from zero
    -- `a` takes the last address alone, but the first is evaluated too
    ∷ row (edited letters (codes "9,1a\nx\n.\n") ≡ fails (codes "?\n") fault.Address) refl  -- first address out of range
    -- `a` takes addresses in any order
    ∷ row (edited letters (codes "3,1a\nx\n.\n,p\nQ\n") ≡ ends (codes "a\nx\nb\nc\n") 4) refl  -- addresses of text unordered
    -- `,` is `1,$` in an empty buffer too
    ∷ row (edited [] (codes ",p\n") ≡ fails (codes "?\n") fault.Address) refl  -- whole empty buffer
    ∷ row (edited [] (codes ",a\nx\n.\n") ≡ fails (codes "?\n") fault.Address) refl  -- text at whole empty buffer
    ∷ []

-- the end, and commands that can't be read
the_end : List Row
the_end =
    row (edited letters (codes "1d\n") ≡ fails (codes "?\n") fault.Unsaved) refl  -- end of changed buffer
    ∷ row (edited letters (codes "1p\n") ≡ ends (codes "a\n") 3) refl  -- end of unchanged buffer
    -- a text goes to the end of the script, which is a `q`
    ∷ row (edited [] (codes "a\nx") ≡ fails (codes "?\n") fault.Unsaved) refl  -- text to end
    ∷ row (edited letters (codes "z\n") ≡ fails (codes "?\n") fault.Syntax) refl  -- no command
    ∷ row (edited letters (codes "1p\nz\n2p\n") ≡ fails (codes "a\n?\n") fault.Syntax) refl  -- good commands run first
    ∷ row (edited letters (codes "Q\nz\n") ≡ ends [] 3) refl  -- unreached
    ∷ row (edited letters (codes "1Q\n") ≡ fails (codes "?\n") fault.Syntax) refl  -- address before quit
    ∷ row (edited letters (codes ",Q\n") ≡ fails (codes "?\n") fault.Syntax) refl  -- pair before quit
    -- no blank stands between a command and a suffix
    ∷ row (edited letters (codes "1d p\n") ≡ fails (codes "?\n") fault.Syntax) refl  -- suffix after blank
    ∷ []

-- lines
lines_rows : List Row
lines_rows =
    row (edited [] (codes "a\n..\n. \n .\n.\n,p\nQ\n") ≡ ends (codes "..\n. \n .\n") 3) refl  -- dots in text
    ∷ row (edited [] (codes "a\n\n\n.\n,p\nQ\n") ≡ ends (codes "\n\n") 2) refl  -- empty lines in text
    ∷ row (edited (0 ∷ 128 ∷ []) (codes "a\n" ++ 255 ∷ 0 ∷ 13 ∷ codes "\n.\n,p\nQ\n") ≡ ends (0 ∷ 128 ∷ 10 ∷ 255 ∷ 0 ∷ 13 ∷ 10 ∷ []) 2) refl  -- any bytes in text
    ∷ row (edited (codes "a\nb") (codes "$p\nQ") ≡ ends (codes "b\n") 2) refl  -- last line without newline
    ∷ []

-- counts, prompts, and the answers to the start
counts : List Row
unfolding digits
counts =
    row (ran (codes "Q\n") (options false None) (answer.Bytes letters ∷ []) ≡ ends (codes "6\n") 3) refl  -- count of bytes read
    ∷ row (ran (codes "1p\nQ\n") (options true (Some (codes "> "))) (answer.Bytes letters ∷ []) ≡ ends (codes "> a\n> ") 3) refl  -- prompt before each command
    ∷ row (ran (codes "a\nx\n") (options true (Some (codes "> "))) (answer.Bytes [] ∷ []) ≡ fails (codes "> > ?\n") fault.Unsaved) refl  -- prompt before end
    ∷ row (ran (codes "z\n") (options true (Some (codes "> "))) (answer.Bytes [] ∷ []) ≡ fails (codes "> ?\n") fault.Syntax) refl  -- prompt before unreadable
    ∷ row (ran (codes "a\nx\n.\n,p\nQ\n") (options true None) (answer.Missing ∷ []) ≡ ends (codes "x\n") 1) refl  -- missing file
    ∷ row (ran (codes ",p\n") (options true (Some (codes "> "))) (answer.Refused ∷ []) ≡ fails (codes "?\n") fault.File) refl  -- refused file
    ∷ row (ran (codes "a\nx\n.\n,p\nQ\n") (record { silent = true; prompt = None; path = None }) []
    ≡ record { output = codes "x\n"; asked = []; stop = Ends (Ok (record { lines = 1 })) }) refl  -- no file
    ∷ []

-- offsets, which may lead outside on the way
offsets : List Row
unfolding digits
offsets =
    row (edited letters (codes "-5+4=\nQ\n") ≡ ends (codes "2\n") 3) refl  -- partial sum outside
    ∷ row (edited letters (codes "-5+6=\n") ≡ fails (codes "?\n") fault.Address) refl  -- sum outside
    ∷ row (edited letters (codes "1p\n++p\n-p\nQ\n") ≡ ends (codes "a\nc\nb\n") 3) refl  -- signs alone
    ∷ row (edited letters (codes " 1 + 1 - , $ - p\nQ\n") ≡ fails (codes "?\n") fault.Syntax) refl  -- blank between a sign and its number
    ∷ row (edited letters (codes " 1 +1 - , $ - p\nQ\n") ≡ ends (codes "a\nb\n") 3) refl  -- blanks between
    ∷ row (edited letters (codes "$-0000000001p\n") ≡ fails (codes "?\n") fault.Syntax) refl  -- ten digits in an offset
    ∷ []

-- pairs
pairs : List Row
unfolding digits
pairs =
    row (edited letters (codes "3,1=\nQ\n") ≡ ends (codes "1\n") 3) refl  -- last of two in any order
    ∷ row (edited letters (codes "9,1=\n") ≡ fails (codes "?\n") fault.Address) refl  -- dropped first is evaluated
    ∷ row (edited letters (codes "0;1=\nQ\n") ≡ ends (codes "1\n") 3) refl  -- line zero is current
    ∷ row (edited letters (codes "1;+1p\nQ\n") ≡ ends (codes "a\nb\n") 3) refl  -- semicolon moves
    ∷ row (edited letters (codes "1,+1p\n") ≡ fails (codes "?\n") fault.Address) refl  -- comma does not move
    ∷ row (edited letters (codes "2p\n;p\nQ\n") ≡ ends (codes "b\nb\nc\n") 3) refl  -- semicolon alone
    ∷ row (edited letters (codes "2;p\n.p\nQ\n") ≡ ends (codes "b\nb\n") 3) refl  -- semicolon without second
    ∷ row (edited (codes "x\ny\nx\n") (codes "/x/,p\nQ\n") ≡ ends (codes "x\n") 3) refl  -- comma without second
    ∷ row (edited [] (codes ",=\n") ≡ fails (codes "?\n") fault.Address) refl  -- whole of an empty buffer
    ∷ row (edited letters (codes "1,2,3p\n") ≡ fails (codes "?\n") fault.Syntax) refl  -- no third address
    ∷ []

-- marks
marks : List Row
unfolding digits
marks =
    row (edited letters (codes "2ka\n1d\n'a=\nQ\n") ≡ ends (codes "1\n") 2) refl  -- mark moves with its line
    ∷ row (edited letters (codes "2ka\n2d\n'a=\n") ≡ fails (codes "?\n") fault.Mark) refl  -- mark goes with its line
    ∷ row (edited letters (codes "2ka\n3ka\n2d\n'a=\nQ\n") ≡ ends (codes "2\n") 2) refl  -- mark is taken from where it was
    ∷ row (edited letters (codes "'a\n") ≡ fails (codes "?\n") fault.Mark) refl  -- no mark
    ∷ row (edited letters (codes "1kz\n.=\nkb\n'z,'bp\nQ\n") ≡ ends (codes "3\na\nb\nc\n") 3) refl  -- marking keeps the current line
    ∷ row (edited letters (codes "0ka\n") ≡ fails (codes "?\n") fault.Address) refl  -- line zero is not marked
    ∷ row (edited letters (codes "1kA\n") ≡ fails (codes "?\n") fault.Syntax) refl  -- no capital letter
    ∷ []

-- searches

abbrev pub repeated : List ℕ
repeated = codes "a\nb\na\n"

searches : List Row
unfolding digits tree.covers_below
searches =
    row (edited repeated (codes "/b/\n//=\nQ\n") ≡ ends (codes "b\n2\n") 3) refl  -- remembered pattern
    ∷ row (edited repeated (codes "/a/=\nQ\n") ≡ ends (codes "1\n") 3) refl  -- wraps forward
    ∷ row (edited repeated (codes "/z/\n") ≡ fails (codes "?\n") fault.NoMatch) refl  -- no match
    ∷ row (edited repeated (codes "//\n") ≡ fails (codes "?\n") fault.Pattern) refl  -- no remembered pattern
    ∷ row (edited repeated (codes "?a?\n?a?\nQ\n") ≡ ends (codes "a\na\n") 3) refl  -- backward
    ∷ row (edited repeated (codes "2p\n?b?=\nQ\n") ≡ ends (codes "b\n2\n") 3) refl  -- backward comes last to its own line
    ∷ row (edited repeated (codes "0;?a?=\nQ\n") ≡ ends (codes "3\n") 3) refl  -- from line zero backward
    ∷ row (edited repeated (codes "1p\n/b\n?a\nQ\n") ≡ ends (codes "a\nb\na\n") 3) refl  -- open delimiter
    ∷ row (edited (codes "?\n/\n") (codes "/?/=\n?/?=\nQ\n") ≡ ends (codes "1\n2\n") 2) refl  -- other delimiter is ordinary
    ∷ row (edited (codes "a/b\nab\n") (codes "/a\\/b/=\n/[/]/=\nQ\n") ≡ ends (codes "1\n1\n") 2) refl  -- delimiter as itself
    ∷ row (edited repeated (codes "/[/\n") ≡ fails (codes "?\n") fault.Syntax) refl  -- no pattern
    ∷ row (edited repeated (codes "/a\\\n") ≡ fails (codes "?\n") fault.Syntax) refl  -- backslash at the end
    ∷ row (edited repeated (codes "/b/+1,$p\nQ\n") ≡ ends (codes "a\n") 3) refl  -- search with offset
    ∷ []

-- null command
null_command : List Row
unfolding digits
null_command =
    row (edited letters (codes "1p\n\n \n2\nQ\n") ≡ ends (codes "a\nb\nc\nb\n") 3) refl  -- next line
    ∷ row (edited letters (codes " \n") ≡ fails (codes "?\n") fault.Address) refl  -- no next line
    ∷ row (edited letters (codes "3,1\nQ\n") ≡ ends (codes "a\n") 3) refl  -- last of two for the null command
    ∷ row (edited letters (codes "1p\n=\n.=\n0=\nQ\n") ≡ ends (codes "a\n3\n1\n0\n") 3) refl  -- line number is the last by default
    ∷ []

-- moved and copied lines

abbrev five : List ℕ
five = codes "1\n2\n3\n4\n5\n"

moved_and_copied_lines : List Row
unfolding digits
moved_and_copied_lines =
    row (edited five (codes "2,4m4\n") ≡ fails (codes "?\n") fault.Destination) refl  -- target at the last of the lines
    ∷ row (edited five (codes "2,4m3\n") ≡ fails (codes "?\n") fault.Destination) refl  -- target among the lines
    ∷ row (edited five (codes "2,4m1\n.=\n,p\nQ\n") ≡ ends (codes "4\n1\n2\n3\n4\n5\n") 5) refl  -- moved to where they are
    ∷ row (edited five (codes "1,2m4\n.p\n,p\nQ\n") ≡ ends (codes "2\n3\n4\n1\n2\n5\n") 5) refl  -- moved forward
    ∷ row (edited five (codes "4,5m0\n.p\n,p\nQ\n") ≡ ends (codes "5\n4\n5\n1\n2\n3\n") 5) refl  -- moved to the front
    ∷ row (edited (codes "x\n") (codes "1m$\n") ≡ fails (codes "?\n") fault.Destination) refl  -- one line has no place to go
    ∷ row (edited letters (codes "1,2t$\n1,3j\n,p\nQ\n") ≡ ends (codes "abc\na\nb\n") 3) refl  -- copied and joined
    ∷ row (edited letters (codes "1ka\n1m$\n'a=\nQ\n") ≡ ends (codes "3\n") 3) refl  -- mark moves
    ∷ row (edited letters (codes "1ka\n1t$\n1d\n'a=\n") ≡ fails (codes "?\n") fault.Mark) refl  -- copy has no mark
    ∷ row (edited letters (codes "1ka\n1,2j\n'a=\n") ≡ fails (codes "?\n") fault.Mark) refl  -- joined line has no mark
    ∷ row (edited (codes "a\nb\n") (codes "1,1j\n2j\n,p\nq\n") ≡ ends (codes "a\nb\n") 2) refl  -- one line is not joined
    ∷ row (edited letters (codes "j\n") ≡ fails (codes "?\n") fault.Address) refl  -- last line joins none
    ∷ row (edited letters (codes "1p\nj\n.p\nQ\n") ≡ ends (codes "a\nab\n") 2) refl  -- joined with the next
    ∷ row (edited letters (codes "1,3t1\n,p\nQ\n") ≡ ends (codes "a\na\nb\nc\nb\nc\n") 6) refl  -- copied within
    ∷ []

-- text before and in place of lines
text_before_and_in_place_of_lines : List Row
unfolding digits
text_before_and_in_place_of_lines =
    row (edited [] (codes "0i\nx\n.\n,p\nQ\n") ≡ ends (codes "x\n") 1) refl  -- text before the first line of none
    ∷ row (edited [] (codes "0c\nx\n.\n") ≡ fails (codes "?\n") fault.Address) refl  -- nothing to change
    ∷ row (edited (codes "a\nb\n") (codes "1c\n.\n.=\nQ\n") ≡ ends (codes "1\n") 1) refl  -- changed without text
    ∷ row (edited letters (codes "0,2c\nx\ny\nz\n.\n.p\n,p\nQ\n") ≡ ends (codes "z\nx\ny\nz\nc\n") 4) refl  -- zero is the first line
    ∷ row (edited letters (codes "0i\n.\n.=\nQ\n") ≡ ends (codes "1\n") 3) refl  -- zero is the first line without text
    ∷ row (edited letters (codes "2i\nx\ny\n.\n.p\n,p\nQ\n") ≡ ends (codes "y\na\nx\ny\nb\nc\n") 5) refl  -- text before
    ∷ []

-- how lines are written
how_lines_are_written : List Row
unfolding digits
how_lines_are_written =
    row (edited letters (codes "1dp\nQ\n") ≡ ends (codes "b\n") 2) refl  -- suffix after deletion
    ∷ row (edited (codes "x\n") (codes "1dp\n") ≡ fails (codes "?\n") fault.Address) refl  -- suffix at line zero
    ∷ row (edited letters (codes "2lp\nQ\n") ≡ ends (codes "b$\nb\n") 3) refl  -- suffix after a form
    ∷ row (edited letters (codes "1m3p\n1m3 p\n") ≡ fails (codes "a\n?\n") fault.Syntax) refl  -- suffix directly after
    ∷ row (edited [] (codes "=p\n") ≡ fails (codes "?\n") fault.Address) refl  -- suffix of line numbers
    ∷ row (edited letters (codes "2,3n\nQ\n") ≡ ends (codes "2\tb\n3\tc\n") 3) refl  -- numbered
    ∷ row (edited (97 ∷ 9 ∷ 92 ∷ 36 ∷ 195 ∷ 10 ∷ []) (codes "l\nQ\n") ≡ ends (codes "a\\t\\\\\\$\\303$\n") 1) refl  -- every kind of byte
    ∷ []

abbrev many : ℕ → List ℕ
many n = replicate n 97

how_lines_are_written_rows : List Row
how_lines_are_written_rows =
    row (edited (many 80 ++ 10 ∷ []) (codes "l\nQ\n") ≡ ends (many 71 ++ 92 ∷ 10 ∷ (many 9 ++ codes "$\n")) 1) refl  -- rows of seventy one
    ∷ row (edited (many 71 ++ 10 ∷ []) (codes "l\nQ\n") ≡ ends (many 71 ++ codes "$\n") 1) refl  -- one whole row
    ∷ row (edited (many 70 ++ 9 ∷ 10 ∷ []) (codes "l\nQ\n") ≡ ends (many 70 ++ 92 ∷ 10 ∷ codes "\\t$\n") 1) refl  -- no unit is split
    ∷ row (edited letters (codes "Qp\n") ≡ fails (codes "?\n") fault.Syntax) refl  -- no suffix after quit
    ∷ row (edited letters (codes "1m\n") ≡ fails (codes "?\n") fault.Syntax) refl  -- no target
    ∷ []

-- help mode and prompting
help_mode_and_prompting : List Row
unfolding digits
help_mode_and_prompting =
    row (ran (codes "1n\nH\nx\n") (options true (Some (codes "> "))) (answer.Bytes (codes "a\nb\n") ∷ [])
    ≡ fails (codes "> 1\ta\n> > ?\ninvalid command\n") fault.Syntax) refl  -- help and prompt
    ∷ row (ran (codes "P\n") (options true None) (answer.Bytes letters ∷ []) ≡ ends (codes "*") 3) refl  -- prompting turned on
    ∷ row (ran (codes "P\n1p\nP\n1p\n") (options true (Some (codes "> "))) (answer.Bytes letters ∷ []) ≡ ends (codes "> a\n> a\n> ") 3) refl  -- prompting turned off
    ∷ row (ran (codes "1p\nP\nP\n") (options true (Some [])) (answer.Bytes letters ∷ []) ≡ ends (codes "a\n") 3) refl  -- empty prompt
    ∷ row (edited [] (codes "Hp\n") ≡ fails (codes "?\n") fault.Address) refl  -- suffix before help mode
    ∷ row (edited letters (codes "Hn\nx\n") ≡ fails (codes "3\tc\n?\ninvalid command\n") fault.Syntax) refl  -- suffix after help mode
    ∷ row (edited letters (codes "H\nz\n") ≡ fails (codes "?\ninvalid command\n") fault.Syntax) refl  -- help turned on
    ∷ row (edited letters (codes "H\nH\n9p\n") ≡ fails (codes "?\n") fault.Address) refl  -- help turned off
    ∷ row (edited letters (codes "h\n1p\nQ\n") ≡ ends (codes "a\n") 3) refl  -- no fault to tell
    ∷ row (edited letters (codes "H\n1h\n") ≡ fails (codes "?\ninvalid command\n") fault.Syntax) refl  -- no address before help
    ∷ []
