-- Worked runs of `u`, after single commands and after globals.
use Rattle.std.specs.Prelude.{◌≡◌, refl, true, [], ◌∷◌, None, codes, List}
use Rattle.std.specs.Fmt.{digits}
use Rattle.ed_base.specs.declared.fault.Fault.TheVariants as fault
use Rattle.ed_syntax.specs.declared.request.Answer.TheVariants as answer
use Rattle.ed_syntax.specs.declared.request.Request.TheVariants as request
use Rattle.ed_syntax.proofs.meaning.Worked.{edited, ends, fails, ran, failed, options}
use Rattle.ed_syntax.proofs.meaning.Worked.{Row, row}

-- undo
undo : List Row
unfolding digits
undo =
    row (edited (codes "a\nb\n") (codes "1d\nu\nu\n,p\nQ\n") ≡ ends (codes "b\n") 1) refl  -- undone and done again
    ∷ row (edited (codes "a\nb\n") (codes "u\n") ≡ fails (codes "?\n") fault.Undo) refl  -- nothing to undo
    ∷ row (edited (codes "a\nb\n") (codes "g/z/d\nu\nq\n") ≡ ends [] 2) refl  -- undo after an idle global
    ∷ row (edited (codes "a\nb\n") (codes "1d\ng/z/d\nu\n,p\nQ\n") ≡ ends (codes "b\n") 1) refl  -- idle global hides a change
    ∷ row (edited (codes "a\nb\na\n") (codes "g/a/d\nu\n,p\nQ\n") ≡ ends (codes "a\nb\na\n") 3) refl  -- global undone as one change
    ∷ row (edited (codes "a\nb\n") (codes "g/a/d\\\n.=\nu\n,p\nQ\n") ≡ ends (codes "1\na\nb\n") 2) refl  -- change before an idle command of a list
    ∷ row (edited (codes "a\nb\na\n") (codes "1;3g/a/d\nu\n.=\nQ\n") ≡ ends (codes "3\n") 3) refl  -- current line from before the addresses
    ∷ row (edited (codes "a\nb\na\n") (codes "g/a/s/a/x/\nu\n2g/b/p\nQ\n") ≡ ends (codes "b\n") 3) refl  -- no flag comes back
    ∷ row (edited (codes "a\nb\na\n") (codes "1ka\ng/a/d\nu\n'a=\nQ\n") ≡ ends (codes "1\n") 3) refl  -- marks come back
    ∷ row (edited (codes "a\nb\nc\n") (codes "1;2d\nu\n.=\nQ\n") ≡ ends (codes "3\n") 3) refl  -- current line comes back
    ∷ row (ran (codes "1d\nw\nu\nq\n") (options true None) (answer.Bytes (codes "a\nb\nc\n") ∷ answer.Done ∷ []) ≡ failed (codes "?\n") (request.Read (codes "F") ∷ request.Write (codes "F") (codes "b\nc\n") ∷ []) fault.Unsaved) refl  -- undo sets the flag of changes
    ∷ row (edited (codes "a\nb\nc\n") (codes "2d\nup\nQ\n") ≡ ends (codes "c\n") 3) refl  -- undo with a suffix
    ∷ row (edited (codes "a\nb\nc\n") (codes "1,2j\nu\n,p\nQ\n") ≡ ends (codes "a\nb\nc\n") 3) refl  -- undo after a join
    ∷ row (edited (codes "a\nb\nc\n") (codes ",s/./x/\nu\n,p\nQ\n") ≡ ends (codes "a\nb\nc\n") 3) refl  -- substitution undone
    ∷ row (edited (codes "a\nb\nc\n") (codes "1u\n") ≡ fails (codes "?\n") fault.Syntax) refl  -- address before undo
    ∷ row (edited (codes "a\nb\nc\n") (codes "ul\n") ≡ fails (codes "?\n") fault.Undo) refl  -- suffix after undo
    ∷ row (ran (codes "1d\nE\nu\n") (options true None) (answer.Bytes (codes "a\n") ∷ answer.Bytes (codes "a\n") ∷ []) ≡ failed (codes "?\n") (request.Read (codes "F") ∷ request.Read (codes "F") ∷ []) fault.Undo) refl  -- edit leaves nothing to undo
    ∷ []
