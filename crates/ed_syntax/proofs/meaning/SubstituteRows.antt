-- Worked runs of `s`, computed from the bytes of script and file; the outputs are those that the standard and our choices say.
use Rattle.std.specs.Prelude.{◌≡◌, refl, codes, List, [], ◌∷◌}
use Rattle.std.specs.Fmt.{digits}
use Rattle.bre_parse.specs.Tree as tree
use Rattle.ed_base.specs.declared.fault.Fault.TheVariants as fault
use Rattle.ed_syntax.proofs.meaning.Worked.{edited, ends, fails}
use Rattle.ed_syntax.proofs.meaning.Worked.{Row, row}

-- matches
matches : List Row
unfolding tree.covers_below digits
matches =
    row (edited (codes "abbabbb\n") (codes "s/\\(ab*\\)\\1/<&>/p\nQ\n") ≡ ends (codes "<abbabb>b\n") 1) refl  -- back reference
    ∷ row (edited (codes "bc\n") (codes "s/\\(a*\\)*/[\\1]/p\nQ\n") ≡ ends (codes "[]bc\n") 1) refl  -- group of an empty turn
    ∷ row (edited (codes "baaac\n") (codes "s/a*/x/gp\nQ\n") ≡ ends (codes "xbxcx\n") 1) refl  -- empty match after a full one
    ∷ row (edited (codes "ab\n") (codes "s/\\(b\\)\\(x\\)*/[\\2]/p\nQ\n") ≡ ends (codes "a[]\n") 1) refl  -- group that is not set
    ∷ row (edited (codes "abc\n") (codes "s/x*/-/gp\nQ\n") ≡ ends (codes "-a-b-c-\n") 1) refl  -- every empty match
    ∷ row (edited (codes "baxc\n") (codes "s/x*/-/gp\nQ\n") ≡ ends (codes "-b-a-c-\n") 1) refl  -- full match among empty ones
    ∷ row (edited (codes "abb\n") (codes "s/b*/X/2p\nQ\n") ≡ ends (codes "aX\n") 1) refl  -- second after an empty one
    ∷ row (edited (codes "baac\n") (codes "s/\\(a*\\)*/x\\1/gp\nQ\n") ≡ ends (codes "xbxaacx\n") 1) refl  -- group of each match
    ∷ row (edited (codes "aXbXc\n") (codes "s/X/-/3p\n") ≡ fails (codes "?\n") fault.NoMatch) refl  -- third of two
    ∷ row (edited (codes "ab\n") (codes "s/x*/-/3p\nQ\n") ≡ ends (codes "ab-\n") 1) refl  -- last of three empty
    ∷ row (edited (codes "aaa\n") (codes "s/^a/-/gp\nQ\n") ≡ ends (codes "-aa\n") 1) refl  -- anchor once
    ∷ row (edited (codes "aa\nb\nab\n") (codes ",s/a/x/n\n,p\nQ\n") ≡ ends (codes "3\txb\nxa\nb\nxb\n") 3) refl  -- each line by itself
    ∷ row (edited (codes "\n") (codes "s/$/x/p\nQ\n") ≡ ends (codes "x\n") 1) refl  -- empty line
    ∷ []

-- replacements
replacements : List Row
unfolding digits
replacements =
    row (edited (codes "aXbXc\n") (codes "s/X/-/2p\ns/X/%/p\nQ\n") ≡ ends (codes "aXb-c\na-b-c\n") 1) refl  -- remembered replacement
    ∷ row (edited (codes "aXbXc\n") (codes "s/X/%/\n") ≡ fails (codes "?\n") fault.Replacement) refl  -- no remembered replacement
    ∷ row (edited (codes "aXbXc\n") (codes "s//%/\n") ≡ fails (codes "?\n") fault.Replacement) refl  -- replacement before pattern
    ∷ row (edited (codes "aXbXc\n") (codes "s//x/\n") ≡ fails (codes "?\n") fault.Pattern) refl  -- pattern where none is remembered
    ∷ row (edited (codes "aXbXc\n") (codes "s/X/%%/p\ns/X/\\%/p\nQ\n") ≡ ends (codes "a%%bXc\na%%b%c\n") 1) refl  -- percent with more is itself
    ∷ row (edited (codes "aXbXc\n") (codes "s%X%\\%%p\nQ\n") ≡ ends (codes "a%bXc\n") 1) refl  -- percent as delimiter
    ∷ row (edited (codes "aXbXc\n") (codes "s&X&\\&&p\nQ\n") ≡ ends (codes "a&bXc\n") 1) refl  -- ampersand as delimiter
    ∷ row (edited (codes "aXbXc\n") (codes "s/X/\\&&\\\\/p\nQ\n") ≡ ends (codes "a&X\\bXc\n") 1) refl  -- escaped ampersand
    ∷ row (edited (codes "a,b\n") (codes "s/,/\\\n/p\n,n\nQ\n") ≡ ends (codes "b\n1\ta\n2\tb\n") 2) refl  -- split in two
    ∷ row (edited (codes ",a,\n") (codes "s/,/\\\n\\\n/g\n,n\n.=\nQ\n") ≡ ends (codes "1\t\n2\t\n3\ta\n4\t\n5\t\n5\n") 5) refl  -- split at both ends
    ∷ row (edited (codes "a,b\nc,d\n") (codes "1s/,/\\\n/\n$s//%/\n,p\nQ\n") ≡ ends (codes "a\nb\nc\nd\n") 4) refl  -- remembered split
    ∷ row (edited (codes "a,b\n") (codes "1ka\ns/,/\\\n/\n'a\n") ≡ fails (codes "?\n") fault.Mark) refl  -- marks of split lines are gone
    ∷ row (edited (codes "a,b,c\n") (codes "1ka\ns/,/\\\n/g\n,n\n.=\n'a\n") ≡ fails (codes "1\ta\n2\tb\n3\tc\n3\n?\n") fault.Mark) refl  -- marked line in three
    ∷ row (edited (codes "a,b\nc\n") (codes "2ka\n1,2s/,/\\\n/\n'ap\nQ\n") ≡ ends (codes "c\n") 3) refl  -- marks of other lines stay
    ∷ []

-- delimiters and flags
delimiters_and_flags : List Row
unfolding digits tree.covers_below
delimiters_and_flags =
    row (edited (codes "aXbXc\n") (codes "s%X%%\n,p\nQ\n") ≡ ends (codes "abXc\n") 1) refl  -- empty replacement between percents
    ∷ row (edited (codes "a,b\n") (codes "s,a\\,b,c,p\nQ\n") ≡ ends (codes "c\n") 1) refl  -- delimiter itself
    ∷ row (edited (codes "aaa\n") (codes "s,a\\{1\\,2\\},x,p\nQ\n") ≡ ends (codes "xa\n") 1) refl  -- delimiter in an interval
    ∷ row (edited (codes "aXbXc\n") (codes "s/X/-\nQ\n") ≡ ends (codes "a-bXc\n") 1) refl  -- left open
    ∷ row (edited (codes "aXbXc\n") (codes "s/X/\nQ\n") ≡ ends (codes "abXc\n") 1) refl  -- left open without a replacement
    ∷ row (edited (codes "aXbXc\n") (codes "s/a\n") ≡ fails (codes "?\n") fault.Syntax) refl  -- no second delimiter
    ∷ row (edited (codes "aXbXc\n") (codes "s/a/b/g2\n") ≡ fails (codes "?\n") fault.Syntax) refl  -- count and all
    ∷ row (edited (codes "aXbXc\n") (codes "s/X/-/2n\nQ\n") ≡ ends (codes "1\taXb-c\n") 1) refl  -- count before a form
    ∷ row (edited (codes "aXbXc\n") (codes "s/X/-/l2\nQ\n") ≡ ends (codes "aXb-c$\n") 1) refl  -- form before a count
    ∷ row (edited (codes "aXbXc\n") (codes "s/X/-/pg  \nQ\n") ≡ ends (codes "a-b-c\n") 1) refl  -- all after a form
    ∷ row (edited (codes "aXbXc\n") (codes "s/X/-/pn\n") ≡ fails (codes "?\n") fault.Syntax) refl  -- two forms
    ∷ row (edited (codes "aXbXc\n") (codes "s/X/-/002p\nQ\n") ≡ ends (codes "aXb-c\n") 1) refl  -- count with zeros
    ∷ row (edited (codes "aXbXc\n") (codes "s/X/-/000\n") ≡ fails (codes "?\n") fault.Syntax) refl  -- count of zero
    ∷ row (edited (codes "aXbXc\n") (codes "s/X/-/0000000001\n") ≡ fails (codes "?\n") fault.Syntax) refl  -- ten digits
    ∷ row (edited (codes "aXbXc\n") (codes "sxaxbx\n") ≡ fails (codes "?\n") fault.Syntax) refl  -- letter as delimiter
    ∷ row (edited (codes "aXbXc\n") (codes "s/X/\\n/\n") ≡ fails (codes "?\n") fault.Syntax) refl  -- letter after a backslash
    ∷ row (edited (codes "aXbXc\n") (codes "s/X/\\0/\n") ≡ fails (codes "?\n") fault.Syntax) refl  -- zero after a backslash
    ∷ row (edited (codes "aXbXc\n") (codes "s/X/\\\n") ≡ fails (codes "?\n") fault.Syntax) refl  -- backslash at the end
    ∷ row (edited (codes "aXbXc\n") (codes "s[X[-[p\nQ\n") ≡ ends (codes "a-bXc\n") 1) refl  -- bracket as delimiter
    ∷ row (edited (codes "aXbXc\n") (codes "s/[/X]/\\//p\nQ\n") ≡ ends (codes "a/bXc\n") 1) refl  -- delimiter in a bracket
    ∷ []

-- places in a script
places_in_a_script : List Row
places_in_a_script =
    row (edited (codes "a,b\n") (codes "s/,/\\\n/\nx\n") ≡ fails (codes "?\n") fault.Syntax) refl  -- fault after a split
    ∷ row (edited (codes "a,b\n") (codes "s/,/\\\n/\na\nx\n.\n,p\nQ\n") ≡ ends (codes "a\nb\nx\n") 3) refl  -- text after a split
    ∷ row (edited (codes "aXbXc\n") (codes "s/X/-/gpp\n") ≡ fails (codes "?\n") fault.Syntax) refl  -- suffix after the flags
    ∷ []
