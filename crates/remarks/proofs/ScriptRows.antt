-- Worked scripts, and whether they show what people hardly mean, computed from their bytes.
use Rattle.std.specs.Prelude.{◌≡◌, refl, ℕ, Bool, true, false, List, [], ◌∷◌, ◌++◌, codes}
use Rattle.ed_syntax.specs.reading.Reading.{script_of}
use Rattle.remarks.specs.declared.slip.Slip.{Slip}
use Rattle.remarks.specs.declared.slip.Slip.TheVariants.{BackwardRange, Bar, Braces, BracketOfBytes, CountedFromCurrentLine, DotOfBytes, InsertBeforeNoLine, NothingWritten, Parentheses, Plus, QuestionMark}
use Rattle.remarks.specs.Parts.{has_high}
use Rattle.remarks.specs.Shown.{script_shows}
use Rattle.remarks.proofs.Worked.{Row, row}

-- a script shows it
abbrev shows : Slip → List ℕ → Bool
shows kind bytes = script_shows (has_high bytes) kind (script_of bytes)

-- the two bytes of an e with an acute accent
abbrev e_acute : List ℕ
e_acute = 195 ∷ 169 ∷ []

-- characters of several bytes
characters : List Row
characters =
    row (shows BracketOfBytes (codes "s/[" ++ e_acute ++ codes "]/e/\n") ≡ true) refl  -- in a bracket expression
    ∷ row (shows BracketOfBytes (codes "s/" ++ e_acute ++ codes "/[e]/\n") ≡ false) refl  -- outside
    ∷ row (shows DotOfBytes (codes "s/=./" ++ e_acute ++ codes "/\n") ≡ true) refl  -- any byte
    ∷ row (shows DotOfBytes (codes "s/=.*/" ++ e_acute ++ codes "/\n") ≡ false) refl  -- any bytes
    ∷ row (shows DotOfBytes (codes "s/=..*/" ++ e_acute ++ codes "/\n") ≡ false) refl  -- one byte or more
    ∷ row (shows DotOfBytes (codes "s/=\\./" ++ e_acute ++ codes "/\n") ≡ false) refl  -- a dot as itself
    ∷ row (shows DotOfBytes (codes "s/=./x/\n") ≡ false) refl  -- nothing beyond ASCII
    ∷ []

-- signs of extended expressions, and what only looks like them
signs : List Row
signs =
    row (shows Plus (codes "g/[0-9]+/d\n") ≡ true) refl  -- a bracket expression is repeated
    ∷ row (shows Plus (codes "g/.+/d\n") ≡ true) refl  -- any byte is repeated
    ∷ row (shows Plus (codes "g/\\(ab\\)+/d\n") ≡ true) refl  -- a group is repeated
    ∷ row (shows Plus (codes "g/c++/d\n") ≡ false) refl  -- a plus after a letter
    ∷ row (shows Plus (codes "g/[+]/d\n") ≡ false) refl  -- a plus in a bracket expression
    ∷ row (shows QuestionMark (codes "g/[a-z]?=/d\n") ≡ true) refl  -- a bracket expression, once or never
    ∷ row (shows QuestionMark (codes "g/colou?r/d\n") ≡ false) refl  -- a question mark after a letter
    ∷ row (shows Bar (codes "g/foo|bar/d\n") ≡ true) refl  -- two alternatives
    ∷ row (shows Bar (codes "g/^a$|^b$/d\n") ≡ true) refl  -- alternatives with anchors
    ∷ row (shows Bar (codes "g/foo | bar/d\n") ≡ false) refl  -- a bar between blanks
    ∷ row (shows Bar (codes "g/a||b/d\n") ≡ false) refl  -- two bars
    ∷ row (shows Bar (codes "g/^|a/d\n") ≡ false) refl  -- a bar in front
    ∷ row (shows Parentheses (codes "g/^(foo)$/d\n") ≡ true) refl  -- a whole pattern between anchors
    ∷ row (shows Parentheses (codes "g/(ab)*c/d\n") ≡ true) refl  -- a group that would be repeated
    ∷ row (shows Parentheses (codes "g/main(void)/d\n") ≡ false) refl  -- parentheses in the middle
    ∷ row (shows Parentheses (codes "g/()/d\n") ≡ false) refl  -- nothing between parentheses
    ∷ row (shows Parentheses (codes "g/(a) (b)/d\n") ≡ false) refl  -- parentheses that close earlier
    ∷ row (shows Parentheses (codes "g/\\(ab\\)*c/d\n") ≡ false) refl  -- a group as POSIX has it
    ∷ row (shows Braces (codes "g/a{2,3}b/d\n") ≡ true) refl  -- a count
    ∷ row (shows Braces (codes "g/a\\{2\\}/d\n") ≡ false) refl  -- a count as POSIX has it
    ∷ row (shows Braces (codes "g/{2}/d\n") ≡ false) refl  -- nothing to be counted
    ∷ row (shows Braces (codes "g/${1}/d\n") ≡ false) refl  -- a parameter of the shell
    ∷ row (shows Braces (codes "g/a{b}/d\n") ≡ false) refl  -- no number
    ∷ []

-- each pattern of a command is looked at, and those of lists
patterns : List Row
patterns =
    row (shows Plus (codes "/[0-9]+/d\n") ≡ true) refl  -- first address
    ∷ row (shows Plus (codes "1,/[0-9]+/d\n") ≡ true) refl  -- second address
    ∷ row (shows Plus (codes "1;?[0-9]+?d\n") ≡ true) refl  -- second address after a semicolon
    ∷ row (shows Plus (codes "1m/[0-9]+/\n") ≡ true) refl  -- target
    ∷ row (shows Plus (codes "s/[0-9]+/x/\n") ≡ true) refl  -- pattern of its own
    ∷ row (shows Plus (codes "1p\ng/a/p\\\ns/[0-9]+/x/\n") ≡ true) refl  -- second of a list
    ∷ row (shows Plus (codes "$a\n[0-9]+\n.\n") ≡ false) refl  -- text
    ∷ []

-- ranges
ranges : List Row
ranges =
    row (shows CountedFromCurrentLine (codes "/A/,+3d\n") ≡ true) refl  -- on from the current line
    ∷ row (shows CountedFromCurrentLine (codes "5,+3d\n") ≡ true) refl  -- on from the current line, after a number
    ∷ row (shows CountedFromCurrentLine (codes "/A/;+3d\n") ≡ false) refl  -- on from the line that is found
    ∷ row (shows CountedFromCurrentLine (codes "/A/,.d\n") ≡ false) refl  -- up to the current line
    ∷ row (shows CountedFromCurrentLine (codes "1,-1d\n") ≡ false) refl  -- back from the current line
    ∷ row (shows CountedFromCurrentLine (codes "-1,+1p\n") ≡ false) refl  -- both from the current line
    ∷ row (shows BackwardRange (codes "3,1d\n") ≡ true) refl  -- greater number first
    ∷ row (shows BackwardRange (codes "3;1d\n") ≡ true) refl  -- greater number first, after a semicolon
    ∷ row (shows BackwardRange (codes "1,0c\nx\n.\n") ≡ true) refl  -- line 0 last
    ∷ row (shows BackwardRange (codes "3,3d\n") ≡ false) refl  -- one line
    ∷ row (shows BackwardRange (codes "2,1a\nx\n.\n") ≡ false) refl  -- one place, of which the last counts
    ∷ []

-- text before line 1 where no line may be left
empty_buffers : List Row
empty_buffers =
    row (shows InsertBeforeNoLine (codes "g/X/d\n1i\na\n.\n") ≡ true) refl  -- all lines may be deleted
    ∷ row (shows InsertBeforeNoLine (codes "v/X/d\ns/a/b/\n1i\na\n.\n") ≡ true) refl  -- a command between
    ∷ row (shows InsertBeforeNoLine (codes "g/X/d\n$a\nb\n.\n1i\na\n.\n") ≡ false) refl  -- a line was put in
    ∷ row (shows InsertBeforeNoLine (codes "g/X/d\n0a\na\n.\n") ≡ false) refl  -- after line 0
    ∷ row (shows InsertBeforeNoLine (codes "g/X/p\n1i\na\n.\n") ≡ false) refl  -- nothing is deleted
    ∷ row (shows InsertBeforeNoLine (codes "1i\na\n.\ng/X/d\n") ≡ false) refl  -- before the lines are deleted
    ∷ []

-- changes that nobody sees
unseen_changes : List Row
unseen_changes =
    row (shows NothingWritten (codes "1d\nQ\n") ≡ true) refl  -- a change alone
    ∷ row (shows NothingWritten (codes "1d\n") ≡ true) refl  -- the end of the script
    ∷ row (shows NothingWritten (codes "1d\nQ\nw\n") ≡ true) refl  -- a w after the end
    ∷ row (shows NothingWritten (codes "g/a/s/b/c/\nQ\n") ≡ true) refl  -- a change in a list
    ∷ row (shows NothingWritten (codes "1d\nw\nq\n") ≡ false) refl  -- a file is written
    ∷ row (shows NothingWritten (codes "1d\n,p\nQ\n") ≡ false) refl  -- output
    ∷ row (shows NothingWritten (codes "1dp\nQ\n") ≡ false) refl  -- output by a suffix
    ∷ row (shows NothingWritten (codes "s/a/b/p\nQ\n") ≡ false) refl  -- output by a flag
    ∷ row (shows NothingWritten (codes "g/a/s/b/c/\\\nw f\nQ\n") ≡ false) refl  -- a file is written in a list
    ∷ row (shows NothingWritten (codes "Q\n") ≡ false) refl  -- no change
    ∷ row (shows NothingWritten (codes "1d\nwq\n") ≡ false) refl  -- what can't be read may write
    ∷ []
