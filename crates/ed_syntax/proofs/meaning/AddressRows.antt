-- Worked runs over addresses, computed from the bytes of script and file; the outputs are those that the standard says.
use Rattle.std.specs.Prelude.{◌≡◌, refl, [], ◌∷◌, ◌++◌, codes, List}
use Rattle.std.specs.Fmt.{digits}
use Rattle.bre_parse.specs.Tree as tree
use Rattle.ed_base.specs.declared.fault.Fault.TheVariants as fault
use Rattle.ed_syntax.proofs.meaning.Worked.{edited, ends, fails}
use Rattle.ed_syntax.proofs.meaning.RunRows.{letters, repeated}
use Rattle.ed_syntax.proofs.meaning.Worked.{Row, row}

-- blanks
blanks : List Row
unfolding digits
blanks =
    row (edited letters (codes "\t , \tp \t\nQ\n") ≡ ends letters 3) refl  -- blanks before a pair
    ∷ row (edited letters (codes " \tQ\t \n") ≡ ends [] 3) refl  -- blanks around quit
    ∷ row (edited letters (codes "2\t ka \n 'a \tp\n'a\t+1 p\nQ\n") ≡ ends (codes "b\nc\n") 3) refl  -- blanks around marks
    ∷ row (edited letters (codes "2k a\n") ≡ fails (codes "?\n") fault.Syntax) refl  -- blank before the marking letter
    ∷ row (edited letters (codes "2ka\n' ap\n") ≡ fails (codes "?\n") fault.Syntax) refl  -- blank within a mark
    ∷ row (edited letters (codes "1\t; \t2 p\nQ\n") ≡ ends (codes "a\nb\n") 3) refl  -- blanks around a semicolon
    ∷ row (edited letters (codes "/b/ \tp\nQ\n") ≡ ends (codes "b\n") 3) refl  -- blank after a search
    ∷ row (edited (codes "a\nb \nb\n") (codes "/b \n.=\nQ\n") ≡ ends (codes "b \n2\n") 3) refl  -- blank belongs to an open pattern
    ∷ row (edited letters (codes "/b /p\n") ≡ fails (codes "?\n") fault.NoMatch) refl  -- blank belongs to a pattern
    ∷ row (edited letters (codes "1p\n+ 1p\n") ≡ fails (codes "a\n?\n") fault.Syntax) refl  -- blank after a sign
    ∷ row (edited letters (codes " 1\ta \t\nx\n.\n2p\nQ\n") ≡ ends (codes "x\n") 4) refl  -- blanks before text
    ∷ row (edited letters (codes "ax\nx\n.\n") ≡ fails (codes "?\n") fault.Syntax) refl  -- no word after a letter
    ∷ row (edited letters (codes "1p" ++ 13 ∷ codes "\n") ≡ fails (codes "?\n") fault.Syntax) refl  -- carriage return is no blank
    ∷ row (edited letters (codes "1" ++ 11 ∷ codes "p\n") ≡ fails (codes "?\n") fault.Syntax) refl  -- vertical tab is no blank
    ∷ row (edited letters (codes "1p\n" ++ 12 ∷ codes "\n") ≡ fails (codes "a\n?\n") fault.Syntax) refl  -- form feed is no null command
    ∷ row (edited letters (codes "1p" ++ 0 ∷ codes "\n") ≡ fails (codes "?\n") fault.Syntax) refl  -- nul is no blank
    ∷ row (edited letters (codes "1p\n" ++ 0 ∷ codes "\n") ≡ fails (codes "a\n?\n") fault.Syntax) refl  -- nul is no command
    ∷ row (edited letters (codes "1p" ++ 160 ∷ codes "\n") ≡ fails (codes "?\n") fault.Syntax) refl  -- high byte is no blank
    ∷ []

-- `;`, and the current line after it
rows : List Row
unfolding digits
rows =
    row (edited repeated (codes "1;/a/p\nQ\n") ≡ ends repeated 3) refl  -- semicolon before search
    ∷ row (edited repeated (codes "/a/;//p\nQ\n") ≡ ends repeated 3) refl  -- semicolon search then remembered
    ∷ row (edited repeated (codes "/a/,//p\nQ\n") ≡ ends (codes "a\n") 3) refl  -- comma search then remembered
    ∷ row (edited letters (codes "/b/;-1p\n") ≡ fails (codes "?\n") fault.Address) refl  -- semicolon then backward offset
    ∷ row (edited letters (codes "/b/,-1p\nQ\n") ≡ ends (codes "b\n") 3) refl  -- comma then backward offset
    ∷ row (edited letters (codes "1p\n2;1=\n.=\nQ\n") ≡ ends (codes "a\n1\n2\n") 3) refl  -- semicolon moves for the number
    ∷ row (edited letters (codes "1p\n2,3=\n.=\nQ\n") ≡ ends (codes "a\n3\n1\n") 3) refl  -- comma does not move for the number
    ∷ row (edited letters (codes "1p\n2;3ka\n.=\n'a=\nQ\n") ≡ ends (codes "a\n2\n3\n") 3) refl  -- semicolon moves for a mark
    ∷ row (edited letters (codes "1;3a\n.\n.=\nQ\n") ≡ ends (codes "3\n") 3) refl  -- semicolon moves for empty text
    ∷ row (edited letters (codes "$;-2=\n.=\nQ\n") ≡ ends (codes "1\n3\n") 3) refl  -- sum after semicolon
    ∷ row (edited letters (codes "1p\n;+1p\nQ\n") ≡ ends (codes "a\na\nb\n") 3) refl  -- semicolon with second alone
    ∷ row (edited letters (codes "1p\n+;p\nQ\n") ≡ ends (codes "a\nb\n") 3) refl  -- relative first has its value twice
    ∷ row (edited letters (codes "2p\n+,p\n2p\n-,p\nQ\n") ≡ ends (codes "b\nc\nb\na\n") 3) refl  -- relative first is evaluated twice
    ∷ row (edited letters (codes "2p\n-,+p\nQ\n") ≡ ends (codes "b\na\nb\nc\n") 3) refl  -- relative pair
    ∷ row (edited letters (codes "1p\n;\n2;\n.=\nQ\n") ≡ ends (codes "a\nc\nb\n2\n") 3) refl  -- null command of a semicolon
    ∷ row (edited letters (codes "1p\n,\n.=\nQ\n") ≡ ends (codes "a\nc\n3\n") 3) refl  -- null command of a comma
    ∷ row (edited letters (codes "1,2\n.=\n0,1\nQ\n") ≡ ends (codes "b\n2\na\n") 3) refl  -- null command of a pair
    ∷ row (edited letters (codes ",a\nx\n.\n,p\nQ\n") ≡ ends (codes "a\nb\nc\nx\n") 4) refl  -- text after comma alone
    ∷ row (edited letters (codes "0;a\nx\n.\n,p\nQ\n") ≡ ends (codes "x\na\nb\nc\n") 4) refl  -- text after line zero and semicolon
    ∷ row (edited repeated (codes "0;/a/p\n") ≡ fails (codes "?\n") fault.Address) refl  -- range from a search at line zero
    ∷ row (edited letters (codes "9;1=\n") ≡ fails (codes "?\n") fault.Address) refl  -- dropped first of semicolon is evaluated
    ∷ row (edited letters (codes "1;,p\n") ≡ fails (codes "?\n") fault.Syntax) refl  -- no separator twice
    ∷ row (edited letters (codes "1,2;p\n") ≡ fails (codes "?\n") fault.Syntax) refl  -- no omitted third
    ∷ row (edited letters (codes ",,p\n") ≡ fails (codes "?\n") fault.Syntax) refl  -- no comma after comma alone
    ∷ []

-- the first fault, from left to right
the_first_fault : List Row
the_first_fault =
    row (edited letters (codes "/z/Q\n") ≡ fails (codes "?\n") fault.Syntax) refl  -- syntax before search
    ∷ row (edited letters (codes "'z,2x\n") ≡ fails (codes "?\n") fault.Syntax) refl  -- syntax before mark
    ∷ row (edited letters (codes "'z,//p\n") ≡ fails (codes "?\n") fault.Mark) refl  -- mark before pattern
    ∷ row (edited letters (codes "//,'zp\n") ≡ fails (codes "?\n") fault.Pattern) refl  -- pattern before mark
    ∷ row (edited letters (codes "/z/,9p\n") ≡ fails (codes "?\n") fault.NoMatch) refl  -- match before address
    ∷ row (edited letters (codes "9,/z/p\n") ≡ fails (codes "?\n") fault.Address) refl  -- address before match
    ∷ row (edited letters (codes "3,/z/p\n") ≡ fails (codes "?\n") fault.NoMatch) refl  -- match before order
    ∷ row (edited letters (codes "0,'zd\n") ≡ fails (codes "?\n") fault.Mark) refl  -- mark before line zero
    ∷ row (edited letters (codes "/c/+1,'zp\n") ≡ fails (codes "?\n") fault.Address) refl  -- offset of a first search outside
    ∷ row (edited letters (codes "/z/,1ka\n") ≡ fails (codes "?\n") fault.NoMatch) refl  -- dropped first search
    ∷ []

-- offsets
offsets : List Row
unfolding digits
offsets =
    row (edited letters (codes "1p\n/b/+p\nQ\n") ≡ ends (codes "a\nc\n") 3) refl  -- offset after a search without number
    ∷ row (edited letters (codes "/b/ - -\t+ p\nQ\n") ≡ ends (codes "a\n") 3) refl  -- offsets after a search
    ∷ row (edited letters (codes "/b/-2=\n/b/-3+2=\nQ\n") ≡ ends (codes "0\n1\n") 3) refl  -- offset to line zero
    ∷ row (edited letters (codes "/b/-3=\n") ≡ fails (codes "?\n") fault.Address) refl  -- offset before line zero
    ∷ row (edited letters (codes "?b?+1p\nQ\n") ≡ ends (codes "c\n") 3) refl  -- offset after a backward search
    ∷ row (edited letters (codes "1ka\n'a+1p\n'a++p\nQ\n") ≡ ends (codes "b\nc\n") 3) refl  -- offset after a mark
    ∷ row (edited letters (codes "/b/,//+1p\nQ\n") ≡ ends (codes "b\nc\n") 3) refl  -- offset after the remembered pattern
    ∷ row (edited letters (codes "9-7p\nQ\n") ≡ ends (codes "b\n") 3) refl  -- number outside with offset
    ∷ row (edited letters (codes "999999999-999999998p\nQ\n") ≡ ends (codes "a\n") 3) refl  -- greatest numbers
    ∷ row (edited letters (codes "0+1p\n0-1+1=\n+0p\n-000000000p\nQ\n") ≡ ends (codes "a\n0\na\na\n") 3) refl  -- line zero with offsets
    ∷ row (edited letters (codes ".1p\n") ≡ fails (codes "?\n") fault.Syntax) refl  -- number after current line
    ∷ row (edited letters (codes "/b/1p\n") ≡ fails (codes "?\n") fault.Syntax) refl  -- number after a search
    ∷ row (edited letters (codes "1ka\n'a1p\n") ≡ fails (codes "?\n") fault.Syntax) refl  -- number after a mark
    ∷ row (edited letters (codes "1p\n+0000000001p\n") ≡ fails (codes "a\n?\n") fault.Syntax) refl  -- ten digits after a line
    ∷ row (edited letters (codes "1;0000000002p\n") ≡ fails (codes "?\n") fault.Syntax) refl  -- ten digits after semicolon
    ∷ row (edited letters (codes "/b/+0000000000p\n") ≡ fails (codes "?\n") fault.Syntax) refl  -- ten digits after a search
    ∷ []

-- the remembered pattern
the_remembered_pattern : List Row
unfolding digits
the_remembered_pattern =
    row (edited letters (codes "/b/,/c/p\n1p\n//=\nQ\n") ≡ ends (codes "b\nc\na\n3\n") 3) refl  -- last pattern is remembered
    ∷ row (edited repeated (codes "?b?\n//=\n3p\n//=\nQ\n") ≡ ends (codes "b\n2\na\n2\n") 3) refl  -- backward pattern is remembered forward
    ∷ row (edited repeated (codes "/a/\n??=\nQ\n") ≡ ends (codes "a\n3\n") 3) refl  -- forward pattern is remembered backward
    ∷ row (edited repeated (codes "/b\n/\n?\nQ\n") ≡ ends (codes "b\nb\nb\n") 3) refl  -- open empty pattern
    ∷ row (edited repeated (codes "?\n") ≡ fails (codes "?\n") fault.Pattern) refl  -- open empty pattern without any
    ∷ row (edited [] (codes "//\n") ≡ fails (codes "?\n") fault.Pattern) refl  -- pattern without lines
    ∷ row (edited [] (codes "/a/\n") ≡ fails (codes "?\n") fault.NoMatch) refl  -- no lines to search
    ∷ row (edited [] (codes "?^?\n") ≡ fails (codes "?\n") fault.NoMatch) refl  -- no lines to search backward
    ∷ []

-- delimiters
delimiters : List Row
unfolding digits tree.covers_below
delimiters =
    row (edited (codes "a/b\nab\n") (codes "/a\\/b\n.=\nQ\n") ≡ ends (codes "a/b\n1\n") 2) refl  -- escaped delimiter in an open pattern
    ∷ row (edited (codes "ab\na/b\n") (codes "/\\//=\n/\\/\nQ\n") ≡ ends (codes "2\na/b\n") 2) refl  -- escaped delimiter alone
    ∷ row (edited (codes "a\na//b\n") (codes "/a\\/*b/=\nQ\n") ≡ ends (codes "2\n") 2) refl  -- escaped delimiter repeated
    ∷ row (edited (codes "a/\na\\\n") (codes "1p\n/a\\\\/=\nQ\n") ≡ ends (codes "a/\n2\n") 2) refl  -- escaped backslash before delimiter
    ∷ row (edited (codes "\\\n\\/\n") (codes "1p\n/\\\\\\//=\nQ\n") ≡ ends (codes "\\\n2\n") 2) refl  -- escaped delimiter after escaped backslash
    ∷ row (edited (codes "ab\na?b\n") (codes "?a\\?b?=\nQ\n") ≡ ends (codes "2\n") 2) refl  -- escaped question mark
    ∷ row (edited (codes "ab\na?b\n") (codes "/a?b/=\nQ\n") ≡ ends (codes "2\n") 2) refl  -- question mark is ordinary
    ∷ row (edited (codes "ab\na?b\n") (codes "/a\\?b/=\n") ≡ fails (codes "?\n") fault.Syntax) refl  -- escaped question mark is no pattern
    ∷ row (edited (codes "ab\na/b\n") (codes "?a\\/b?=\nQ\n") ≡ ends (codes "2\n") 2) refl  -- slash escaped in a backward search
    ∷ row (edited (codes "a/\na\n") (codes "1p\n/a\\/\n.=\nQ\n") ≡ ends (codes "a/\na/\n1\n") 2) refl  -- delimiter after unpaired backslash at the end
    ∷ row (edited (codes "a\n?\n") (codes "?[?]?=\nQ\n") ≡ ends (codes "2\n") 2) refl  -- question mark in a bracket
    ∷ row (edited (codes "x\n\\\n/\n") (codes "1p\n/[\\/]/=\n/[\\/]/+=\nQ\n") ≡ ends (codes "x\n2\n3\n") 3) refl  -- backslash is itself in a bracket
    ∷ row (edited (codes "x\n\\\n/\n") (codes "1p\n/[\\]/=\nQ\n") ≡ ends (codes "x\n2\n") 3) refl  -- backslash closes no bracket
    ∷ row (edited (codes "x\n\\\n/\n") (codes "/[\\]/]/=\n") ≡ fails (codes "?\n") fault.Syntax) refl  -- bracket closed after a backslash
    ∷ row (edited (codes "x\n]\n/\n") (codes "1p\n/[]/]/=\n2p\n/[]/]/=\nQ\n") ≡ ends (codes "x\n2\n]\n3\n") 3) refl  -- delimiter after first right bracket
    ∷ row (edited (codes "/\nx\n") (codes "/[^/]/=\n/[^]/]/=\nQ\n") ≡ ends (codes "2\n2\n") 2) refl  -- delimiter in a nonmatching list
    ∷ row (edited (codes "x\n/\n") (codes "1p\n/[[./.]]/=\nQ\n") ≡ ends (codes "x\n2\n") 2) refl  -- delimiter as a collating symbol
    ∷ row (edited (codes "x\n/\n") (codes "1p\n/[[.].]/]/=\nQ\n") ≡ ends (codes "x\n2\n") 2) refl  -- right bracket as a collating symbol
    ∷ row (edited (codes "x\n/\n") (codes "1p\n/[[:digit:]/]/=\nQ\n") ≡ ends (codes "x\n2\n") 2) refl  -- delimiter after a class
    ∷ row (edited (codes "x\n[\n") (codes "1p\n/\\[/=\nQ\n") ≡ ends (codes "x\n2\n") 2) refl  -- delimiter after an escaped bracket
    ∷ row (edited letters (codes "/[]/\n") ≡ fails (codes "?\n") fault.Syntax) refl  -- bracket that is not closed
    ∷ row (edited letters (codes "/[[:alpha:]/\n") ≡ fails (codes "?\n") fault.Syntax) refl  -- class in a bracket that is not closed
    ∷ row (edited letters (codes "/[c-a]/\n") ≡ fails (codes "?\n") fault.Syntax) refl  -- range out of order
    ∷ row (edited (codes "x\n[/\n") (codes "1p\n/[[]\\//=\nQ\n") ≡ ends (codes "x\n2\n") 2) refl  -- left bracket in a bracket
    ∷ []

-- anchors and empty lines
anchors_and_empty_lines : List Row
unfolding digits
anchors_and_empty_lines =
    row (edited (codes "\n\na\n") (codes "/^$/=\n/^$/;//=\n?^$?=\n,p\nQ\n") ≡ ends (codes "1\n2\n2\n\n\na\n") 3) refl  -- empty lines
    ∷ row (edited (codes "a\nb\n") (codes "1p\n/^/=\n/$/=\n?^?=\nQ\n") ≡ ends (codes "a\n2\n2\n2\n") 2) refl  -- anchor alone
    ∷ row (edited (codes "a^b\na$b\n*\n") (codes "/a^b/=\n/a$b/=\n/*/=\n1p\n/^*/=\nQ\n") ≡ ends (codes "1\n2\n3\na^b\n3\n") 3) refl  -- anchors inside are themselves
    ∷ row (edited (codes "ba\na\n") (codes "1p\n/\\(^a\\)/=\n/^\\(a$\\)/=\nQ\n") ≡ ends (codes "ba\n2\n2\n") 2) refl  -- anchor in a group
    ∷ row (edited (codes "ab\na\n") (codes "1p\n/a$\nQ\n") ≡ ends (codes "ab\na\n") 2) refl  -- dollar at the end of an open pattern
    ∷ row (edited (codes "aa\na\naa\n") (codes "1p\n/^a$/=\n/^a\\{2\\}$/=\nQ\n") ≡ ends (codes "aa\n2\n3\n") 3) refl  -- whole line
    ∷ row (edited (codes "ab\naa\n") (codes "1p\n/\\(.\\)\\1/=\nQ\n") ≡ ends (codes "ab\n2\n") 2) refl  -- back reference
    ∷ row (edited (codes "\n") (codes "p\n.=\n/^$/=\nQ\n") ≡ ends (codes "\n1\n1\n") 1) refl  -- file of one empty line
    ∷ row (edited (codes "a\n\nb") (codes "2p\n$=\nQ\n") ≡ ends (codes "\n3\n") 3) refl  -- last line empty and incomplete before
    ∷ row (edited [] (codes "a\nx\n\n.\n/^$/=\n/x/=\nQ\n") ≡ ends (codes "2\n1\n") 2) refl  -- empty text lines are found
    ∷ []

-- bytes
bytes : List Row
unfolding digits tree.covers_below
bytes =
    row (edited (codes "a" ++ 13 ∷ codes "\nb" ++ 13 ∷ codes "\n") (codes "1p\n/b$/\n") ≡ fails (codes "a" ++ 13 ∷ codes "\n?\n") fault.NoMatch) refl  -- carriage return belongs to its line
    ∷ row (edited (codes "a\nb" ++ 13 ∷ codes "\n") (codes "1p\n/" ++ 13 ∷ codes "$/=\nQ\n") ≡ ends (codes "a\n2\n") 2) refl  -- carriage return in a pattern
    ∷ row (edited (codes "a\na" ++ 0 ∷ codes "b\n") (codes "1p\n/" ++ 0 ∷ codes "b/=\n/^a.b$/=\nQ\n") ≡ ends (codes "a\n2\n2\n") 2) refl  -- nul in a pattern
    ∷ row (edited (codes "a\n" ++ 195 ∷ 169 ∷ codes "\n") (codes "1p\n/^..$/=\n/" ++ 169 ∷ codes "$/=\n/[" ++ 128 ∷ codes "-" ++ 255 ∷ codes "]/=\nQ\n") ≡ ends (codes "a\n2\n2\n2\n") 2) refl  -- high bytes are single
    ∷ row (edited [] (codes "a\nx\n." ++ 13 ∷ codes "\n") ≡ fails (codes "?\n") fault.Unsaved) refl  -- dot with carriage return is text
    ∷ row (edited letters (codes "1k" ++ 225 ∷ codes "\n") ≡ fails (codes "?\n") fault.Syntax) refl  -- high byte is no letter
    ∷ row (edited letters (codes "/\\" ++ 0 ∷ codes "/\n") ≡ fails (codes "?\n") fault.Syntax) refl  -- escaped nul is no pattern
    ∷ []

-- marks
marks : List Row
unfolding digits
marks =
    row (edited letters (codes "1ka\n3kb\n'a,'bp\n2d\n'a;'bp\n'b,'a=\nQ\n") ≡ ends (codes "a\nb\nc\na\nc\n1\n") 2) refl  -- pair of marks
    ∷ row (edited letters (codes "1ka\n3kb\n'b,'ap\n") ≡ fails (codes "?\n") fault.Address) refl  -- marks out of order
    ∷ row (edited letters (codes "2ka\n0a\nx\ny\n.\n'a=\nQ\n") ≡ ends (codes "4\n") 5) refl  -- mark after appended lines
    ∷ row (edited letters (codes "2ka\n2a\nx\n.\n'a=\n'ap\nQ\n") ≡ ends (codes "2\nb\n") 4) refl  -- mark before appended lines
    ∷ row (edited letters (codes "2ka\n2kb\n'a,'bp\n1ka\n'a=\n'b=\nQ\n") ≡ ends (codes "b\n1\n2\n") 3) refl  -- two letters on a line
    ∷ row (edited letters (codes "2ka\n2d\nka\n'ap\nQ\n") ≡ ends (codes "c\n") 2) refl  -- mark set again after delete
    ∷ row (edited letters (codes "1ka\n3kb\n1,2d\n'b=\n'a=\n") ≡ fails (codes "1\n?\n") fault.Mark) refl  -- marks in a deleted range
    ∷ row (edited letters (codes "1ka\n2;3kb\n") ≡ ends [] 3) refl  -- marks do not change the buffer
    ∷ row (edited letters (codes "2,1kz\n'z=\n0,2kz\n'z=\nQ\n") ≡ ends (codes "1\n2\n") 3) refl  -- last of two is marked
    ∷ row (edited letters (codes "1k\n") ≡ fails (codes "?\n") fault.Syntax) refl  -- no marking letter
    ∷ row (edited letters (codes "1k1\n") ≡ fails (codes "?\n") fault.Syntax) refl  -- no digit marks
    ∷ row (edited letters (codes "'\n") ≡ fails (codes "?\n") fault.Syntax) refl  -- no letter after apostrophe
    ∷ row (edited letters (codes "1k{\n") ≡ fails (codes "?\n") fault.Syntax) refl  -- brace is no letter
    ∷ row (edited letters (codes "1p\n'`p\n") ≡ fails (codes "a\n?\n") fault.Syntax) refl  -- backquote is no letter
    ∷ []

-- line 0, and the current line there
line : List Row
unfolding digits
line =
    row (edited [] (codes "=\n.=\n$=\n0=\n0,$=\nQ\n") ≡ ends (codes "0\n0\n0\n0\n0\n") 0) refl  -- line zero of an empty buffer
    ∷ row (edited [] (codes "\n") ≡ fails (codes "?\n") fault.Address) refl  -- no next line of an empty buffer
    ∷ row (edited [] (codes "ka\n") ≡ fails (codes "?\n") fault.Address) refl  -- no line to mark
    ∷ row (edited [] (codes "d\n") ≡ fails (codes "?\n") fault.Address) refl  -- no line to delete
    ∷ row (edited letters (codes "0a\n.\n.=\n\n0a\n.\n+1p\n0a\n.\n?c?=\n/a/=\nQ\n") ≡ ends (codes "0\na\na\n3\n1\n") 3) refl  -- current line zero
    ∷ row (edited letters (codes "0a\n.\np\n") ≡ fails (codes "?\n") fault.Address) refl  -- no line zero to write
    ∷ row (edited letters (codes "0a\n.\n.d\n") ≡ fails (codes "?\n") fault.Address) refl  -- no line zero to delete
    ∷ row (edited letters (codes "0a\n.\n;p\n") ≡ fails (codes "?\n") fault.Address) refl  -- no range from current line zero
    ∷ row (edited letters (codes "1,0\n") ≡ fails (codes "?\n") fault.Address) refl  -- no line zero for the null command
    ∷ row (edited letters (codes "0a\n.\na\nx\n.\n,p\n.=\nQ\n") ≡ ends (codes "x\na\nb\nc\n4\n") 4) refl  -- text at current line zero
    ∷ row (edited letters (codes "0Q\n") ≡ fails (codes "?\n") fault.Syntax) refl  -- line zero before quit
    ∷ row (edited letters (codes "0;\n") ≡ fails (codes "?\n") fault.Address) refl  -- line zero and semicolon for the null command
    ∷ []

-- deleting
deleting : List Row
unfolding digits
deleting =
    row (edited letters (codes "2,3d\n.=\n=\nQ\n") ≡ ends (codes "1\n1\n") 1) refl  -- deleted to the end
    ∷ row (edited letters (codes "1,2d\n.=\np\nQ\n") ≡ ends (codes "1\nc\n") 1) refl  -- deleted from the start
    ∷ row (edited letters (codes "d\nd\nd\n.=\n=\nd\n") ≡ fails (codes "0\n0\n?\n") fault.Address) refl  -- deleted one by one
    ∷ row (edited letters (codes "1ka\n,d\na\nx\n.\n,p\n'a\n") ≡ fails (codes "x\n?\n") fault.Mark) refl  -- text after all deleted
    ∷ row (edited repeated (codes "/a/,//d\n.=\n,p\nQ\n") ≡ ends (codes "1\nb\na\n") 2) refl  -- deleted by searches
    ∷ row (edited repeated (codes "1;//\n") ≡ fails (codes "?\n") fault.Pattern) refl  -- deleted after semicolon
    ∷ row (edited letters (codes "Qp\n") ≡ fails (codes "?\n") fault.Syntax) refl  -- quit with a letter
    ∷ row (edited letters (codes "1,2p\n2,9p\n") ≡ fails (codes "a\nb\n?\n") fault.Address) refl  -- fault writes nothing of its command
    ∷ []
