-- Worked runs of the commands on files, computed from the bytes of script and files: counts, paths, requests and the flag of changes.
use Rattle.std.specs.Prelude.{◌≡◌, refl, true, false, [], ◌∷◌, Some, None, codes, List}
use Rattle.std.specs.Fmt.{digits}
use Rattle.ed_base.specs.declared.fault.Fault.TheVariants as fault
use Rattle.ed_syntax.specs.declared.request.Answer.TheVariants as answer
use Rattle.ed_syntax.specs.declared.request.Request.TheVariants as request
use Rattle.ed_syntax.proofs.meaning.Worked.{edited, ends, fails, ran, ended, failed, waiting, options, unnamed}
use Rattle.ed_syntax.proofs.meaning.Worked.{Row, row}

-- counts
counts : List Row
unfolding digits
counts =
    row (ran (codes "$a\nd\n.\nw\nq\n") (options false None) (answer.Bytes (codes "a\nb\nc\n") ∷ answer.Done ∷ []) ≡ ended (codes "6\n8\n") (request.Read (codes "F") ∷ request.Write (codes "F") (codes "a\nb\nc\nd\n") ∷ []) 4) refl  -- counts of a read and a write
    ∷ row (ran (codes "1r G\n,p\nQ\n") (options false None) (answer.Bytes (codes "a\nb\n") ∷ answer.Bytes (codes "x") ∷ []) ≡ ended (codes "4\n1\na\nx\nb\n") (request.Read (codes "F") ∷ request.Read (codes "G") ∷ []) 3) refl  -- file read after a line
    ∷ row (ran (codes "a\nx\n.\nw\nq\n") (options false None) (answer.Missing ∷ answer.Done ∷ []) ≡ ended (codes "2\n") (request.Read (codes "F") ∷ request.Write (codes "F") (codes "x\n") ∷ []) 1) refl  -- start file missing
    ∷ row (ran (codes "e G\nE\nf\nq\n") (options false None) (answer.Bytes (codes "a\nb\n") ∷ answer.Bytes (codes "x") ∷ answer.Bytes (codes "x") ∷ []) ≡ ended (codes "4\n1\n1\nG\n") (request.Read (codes "F") ∷ request.Read (codes "G") ∷ request.Read (codes "G") ∷ []) 1) refl  -- counts of edits
    ∷ row (ran (codes "1,1d\nw\nq\n") (options false None) (answer.Bytes (codes "a\n") ∷ answer.Done ∷ []) ≡ ended (codes "2\n0\n") (request.Read (codes "F") ∷ request.Write (codes "F") [] ∷ []) 0) refl  -- count of no line
    ∷ []

-- paths
paths : List Row
paths =
    row (ran (codes "w\n") unnamed [] ≡ failed (codes "?\n") [] fault.Name) refl  -- no name to write
    ∷ row (ran (codes "f\n") unnamed [] ≡ failed (codes "?\n") [] fault.Name) refl  -- no name to tell
    ∷ row (ran (codes "f G\nf\nQ\n") unnamed [] ≡ ended (codes "G\nG\n") [] 0) refl  -- name is set and told
    ∷ row (ran (codes "r G\nf\nQ\n") unnamed (answer.Bytes (codes "x") ∷ []) ≡ ended (codes "G\n") (request.Read (codes "G") ∷ []) 1) refl  -- name remembered by a read
    ∷ row (ran (codes "r G\nf\nQ\n") (options true None) (answer.Bytes (codes "a\n") ∷ answer.Bytes (codes "x") ∷ []) ≡ ended (codes "F\n") (request.Read (codes "F") ∷ request.Read (codes "G") ∷ []) 2) refl  -- name kept by a read
    ∷ row (ran (codes "a\nx\n.\nw G\nf\nq\n") unnamed (answer.Done ∷ []) ≡ ended (codes "G\n") (request.Write (codes "G") (codes "x\n") ∷ []) 1) refl  -- name remembered by a write
    ∷ row (edited (codes "a\n") (codes "f \t G H \nQ\n") ≡ ends (codes "G H \n") 1) refl  -- name with blanks
    ∷ row (edited (codes "a\n") (codes "f  \t\nQ\n") ≡ ends (codes "F\n") 1) refl  -- blanks are no name
    ∷ row (edited (codes "a\n") (codes "w !x\n") ≡ fails (codes "?\n") fault.Syntax) refl  -- shell escape
    ∷ row (edited (codes "a\n") (codes "wx\n") ≡ fails (codes "?\n") fault.Syntax) refl  -- no blank before a name
    ∷ []

-- changes
changes : List Row
unfolding digits
changes =
    row (edited (codes "a\n") (codes "1d\ne G\n") ≡ fails (codes "?\n") fault.Unsaved) refl  -- edit of a changed buffer
    ∷ row (ran (codes "1d\nE G\n,p\nQ\n") (options true None) (answer.Bytes (codes "a\n") ∷ answer.Bytes (codes "x\n") ∷ []) ≡ ended (codes "x\n") (request.Read (codes "F") ∷ request.Read (codes "G") ∷ []) 1) refl  -- edit anyway
    ∷ row (ran (codes "1ka\ne G\n'a\n") (options true None) (answer.Bytes (codes "a\n") ∷ answer.Bytes (codes "x\n") ∷ []) ≡ failed (codes "?\n") (request.Read (codes "F") ∷ request.Read (codes "G") ∷ []) fault.Mark) refl  -- marks after an edit
    ∷ row (ran (codes "/a/\ne G\n//=\nQ\n") (options true None) (answer.Bytes (codes "a\n") ∷ answer.Bytes (codes "x\na\n") ∷ []) ≡ ended (codes "a\n2\n") (request.Read (codes "F") ∷ request.Read (codes "G") ∷ []) 2) refl  -- patterns after an edit
    ∷ row (edited (codes "a\nb\n") (codes "1d\nq\n") ≡ fails (codes "?\n") fault.Unsaved) refl  -- quit of a changed buffer
    ∷ row (ran (codes "2d\n1w\nq\n") (options true None) (answer.Bytes (codes "a\nb\nc\n") ∷ answer.Done ∷ []) ≡ failed (codes "?\n") (request.Read (codes "F") ∷ request.Write (codes "F") (codes "a\n") ∷ []) fault.Unsaved) refl  -- part of the lines written
    ∷ row (ran (codes "1d\n2,$w\nq\n") (options true None) (answer.Bytes (codes "a\nb\nc\n") ∷ answer.Done ∷ []) ≡ failed (codes "?\n") (request.Read (codes "F") ∷ request.Write (codes "F") (codes "c\n") ∷ []) fault.Unsaved) refl  -- last lines written
    ∷ row (ran (codes "2d\n,w\nq\n") (options true None) (answer.Bytes (codes "a\nb\nc\n") ∷ answer.Done ∷ []) ≡ ended [] (request.Read (codes "F") ∷ request.Write (codes "F") (codes "a\nc\n") ∷ []) 2) refl  -- all lines written by addresses
    ∷ row (ran (codes "1d\nw H\nq\n") (options true None) (answer.Bytes (codes "a\nb\n") ∷ answer.Done ∷ []) ≡ ended [] (request.Read (codes "F") ∷ request.Write (codes "H") (codes "b\n") ∷ []) 1) refl  -- written under another name
    ∷ row (ran (codes "3c\n..\n.\ns/.//\n1d\nw\nq\n") (options true None) (answer.Bytes (codes "a\nb\nc\n") ∷ answer.Done ∷ []) ≡ ended [] (request.Read (codes "F") ∷ request.Write (codes "F") (codes "b\n.\n") ∷ []) 2) refl  -- edits of a difference
    ∷ row (ran (codes "r G\nq\n") (options true None) (answer.Bytes (codes "a\n") ∷ answer.Bytes [] ∷ []) ≡ ended [] (request.Read (codes "F") ∷ request.Read (codes "G") ∷ []) 1) refl  -- empty file read
    ∷ row (ran (codes "0r G\n.=\nq\n") (options true None) (answer.Bytes (codes "a\n") ∷ answer.Bytes [] ∷ []) ≡ ended (codes "0\n") (request.Read (codes "F") ∷ request.Read (codes "G") ∷ []) 1) refl  -- current line after an empty file
    ∷ []

-- refusals
refusals : List Row
refusals =
    row (ran (codes "w\nq\n") (options true None) (answer.Bytes (codes "a\n") ∷ answer.Refused ∷ []) ≡ failed (codes "?\n") (request.Read (codes "F") ∷ request.Write (codes "F") (codes "a\n") ∷ []) fault.File) refl  -- write refused
    ∷ row (ran (codes "r G\n") (options true None) (answer.Bytes (codes "a\n") ∷ answer.Missing ∷ []) ≡ failed (codes "?\n") (request.Read (codes "F") ∷ request.Read (codes "G") ∷ []) fault.File) refl  -- file missing for a read
    ∷ row (ran (codes "e G\n") (options true None) (answer.Bytes (codes "a\n") ∷ answer.Missing ∷ []) ≡ failed (codes "?\n") (request.Read (codes "F") ∷ request.Read (codes "G") ∷ []) fault.File) refl  -- file missing for an edit
    ∷ row (ran (codes "E G\n") (options true None) (answer.Bytes (codes "a\n") ∷ answer.Refused ∷ []) ≡ failed (codes "?\n") (request.Read (codes "F") ∷ request.Read (codes "G") ∷ []) fault.File) refl  -- read refused
    ∷ row (edited (codes "a\n") (codes "1e G\n") ≡ fails (codes "?\n") fault.Syntax) refl  -- address before an edit
    ∷ row (edited (codes "a\n") (codes "qp\n") ≡ fails (codes "?\n") fault.Syntax) refl  -- suffix after quit
    ∷ []

-- lines
lines : List Row
unfolding digits
lines =
    row (ran (codes "w\nq\n") (options false None) (answer.Missing ∷ answer.Done ∷ []) ≡ ended (codes "0\n") (request.Read (codes "F") ∷ request.Write (codes "F") [] ∷ []) 0) refl  -- empty buffer written
    ∷ row (ran (codes ",w\n") (options true None) (answer.Missing ∷ []) ≡ failed (codes "?\n") (request.Read (codes "F") ∷ []) fault.Address) refl  -- no lines by addresses
    ∷ row (ran (codes "0w\n") (options true None) (answer.Bytes (codes "a\n") ∷ []) ≡ failed (codes "?\n") (request.Read (codes "F") ∷ []) fault.Address) refl  -- line zero written
    ∷ row (ran (codes "2,1w\n") (options true None) (answer.Bytes (codes "a\nb\n") ∷ []) ≡ failed (codes "?\n") (request.Read (codes "F") ∷ []) fault.Address) refl  -- lines out of order
    ∷ row (ran (codes "2w G\nq\n") (options true None) (answer.Bytes (codes "a\nb\nc\n") ∷ answer.Done ∷ []) ≡ ended [] (request.Read (codes "F") ∷ request.Write (codes "G") (codes "b\n") ∷ []) 3) refl  -- one line written
    ∷ row (ran (codes "2,3w G\nq\n") (options true None) (answer.Bytes (codes "a\nb\nc\n") ∷ answer.Done ∷ []) ≡ ended [] (request.Read (codes "F") ∷ request.Write (codes "G") (codes "b\nc\n") ∷ []) 3) refl  -- range written
    ∷ row (ran (codes "w\nq\n") (options true None) (answer.Bytes (codes "a") ∷ answer.Done ∷ []) ≡ ended [] (request.Read (codes "F") ∷ request.Write (codes "F") (codes "a\n") ∷ []) 1) refl  -- last line gets its newline
    ∷ row (ran (codes "1w G\n.=\nq\n") (options true None) (answer.Bytes (codes "a\nb\n") ∷ answer.Done ∷ []) ≡ ended (codes "2\n") (request.Read (codes "F") ∷ request.Write (codes "G") (codes "a\n") ∷ []) 2) refl  -- write keeps the current line
    ∷ row (ran (codes "1\nr G\n.=\n,p\nQ\n") (options true None) (answer.Bytes (codes "a\nb\n") ∷ answer.Bytes (codes "x\ny\n") ∷ []) ≡ ended (codes "a\n4\na\nb\nx\ny\n") (request.Read (codes "F") ∷ request.Read (codes "G") ∷ []) 4) refl  -- file read at the end
    ∷ row (ran (codes "0r G\n.=\n,p\nQ\n") (options true None) (answer.Bytes (codes "a\n") ∷ answer.Bytes (codes "x\n") ∷ []) ≡ ended (codes "1\nx\na\n") (request.Read (codes "F") ∷ request.Read (codes "G") ∷ []) 2) refl  -- file read before all lines
    ∷ row (ran (codes "r G\n,p\nQ\n") unnamed (answer.Bytes (codes "x\n") ∷ []) ≡ ended (codes "x\n") (request.Read (codes "G") ∷ []) 1) refl  -- file read into an empty buffer
    ∷ row (ran (codes "2,1r G\n,p\nQ\n") (options true None) (answer.Bytes (codes "a\nb\n") ∷ answer.Bytes (codes "x\n") ∷ []) ≡ ended (codes "a\nx\nb\n") (request.Read (codes "F") ∷ request.Read (codes "G") ∷ []) 3) refl  -- last of two addresses for a read
    ∷ row (ran (codes "1ka\n0r G\n'a=\nQ\n") (options true None) (answer.Bytes (codes "a\n") ∷ answer.Bytes (codes "x\n") ∷ []) ≡ ended (codes "2\n") (request.Read (codes "F") ∷ request.Read (codes "G") ∷ []) 2) refl  -- marks after a read
    ∷ []

-- order of faults
order_of_faults : List Row
order_of_faults =
    row (ran (codes "a\nx\n.\ne\n") unnamed [] ≡ failed (codes "?\n") [] fault.Name) refl  -- name before changes
    ∷ row (ran (codes "5w\n") unnamed [] ≡ failed (codes "?\n") [] fault.Address) refl  -- address before name
    ∷ row (ran (codes "1d\ne G\n") (options true None) (answer.Bytes (codes "a\n") ∷ answer.Missing ∷ []) ≡ failed (codes "?\n") (request.Read (codes "F") ∷ []) fault.Unsaved) refl  -- changes before the file
    ∷ row (ran (codes "r G\nq\n") (options true None) (answer.Bytes (codes "a\n") ∷ answer.Bytes (codes "x\n") ∷ []) ≡ failed (codes "?\n") (request.Read (codes "F") ∷ request.Read (codes "G") ∷ []) fault.Unsaved) refl  -- changes after a read
    ∷ row (ran (codes "r\n") unnamed [] ≡ failed (codes "?\n") [] fault.Name) refl  -- no name to read
    ∷ row (ran (codes "E\n") unnamed [] ≡ failed (codes "?\n") [] fault.Name) refl  -- no name to edit
    ∷ row (ran (codes "H\nr G\n") (options true None) (answer.Bytes (codes "a\n") ∷ answer.Refused ∷ []) ≡ failed (codes "?\nfile refused\n") (request.Read (codes "F") ∷ request.Read (codes "G") ∷ []) fault.File) refl  -- fault told in help mode
    ∷ []

-- requests
requests : List Row
requests =
    row (ran (codes "r G\n") (options true None) (answer.Bytes (codes "a\n") ∷ []) ≡ waiting [] (request.Read (codes "F") ∷ []) (request.Read (codes "G"))) refl  -- read is waited for
    ∷ row (ran (codes "1d\nw\n") (options true None) (answer.Bytes (codes "a\nb\n") ∷ []) ≡ waiting [] (request.Read (codes "F") ∷ []) (request.Write (codes "F") (codes "b\n"))) refl  -- write is waited for
    ∷ row (ran (codes "r G\n") (options true (Some (codes "> "))) (answer.Bytes (codes "a\n") ∷ []) ≡ waiting (codes "> ") (request.Read (codes "F") ∷ []) (request.Read (codes "G"))) refl  -- prompt before a request
    ∷ row (ran (codes "r G\n") (options true (Some (codes "> "))) (answer.Bytes (codes "a\n") ∷ answer.Bytes (codes "x\n") ∷ []) ≡ failed (codes "> > ?\n") (request.Read (codes "F") ∷ request.Read (codes "G") ∷ []) fault.Unsaved) refl  -- prompt once for a request
    ∷ row (ran (codes "r G\n") (options true None) (answer.Bytes (codes "a\n") ∷ answer.Done ∷ []) ≡ failed (codes "?\n") (request.Read (codes "F") ∷ request.Read (codes "G") ∷ []) fault.File) refl  -- done is no answer to a read
    ∷ row (ran (codes "w\n") (options true None) (answer.Bytes (codes "a\n") ∷ answer.Bytes (codes "a\n") ∷ []) ≡ failed (codes "?\n") (request.Read (codes "F") ∷ request.Write (codes "F") (codes "a\n") ∷ []) fault.File) refl  -- bytes are no answer to a write
    ∷ row (ran (codes "w\n") (options true None) (answer.Bytes (codes "a\n") ∷ answer.Missing ∷ []) ≡ failed (codes "?\n") (request.Read (codes "F") ∷ request.Write (codes "F") (codes "a\n") ∷ []) fault.File) refl  -- missing is no answer to a write
    ∷ []

-- spelling
spelling : List Row
spelling =
    row (ran (codes "q \t\n") (options true None) (answer.Bytes (codes "a\n") ∷ []) ≡ ended [] (request.Read (codes "F") ∷ []) 1) refl  -- blanks after quit
    ∷ row (ran (codes "1q\n") (options true None) (answer.Bytes (codes "a\n") ∷ []) ≡ failed (codes "?\n") (request.Read (codes "F") ∷ []) fault.Syntax) refl  -- address before quit
    ∷ row (ran (codes ".f\n") (options true None) (answer.Bytes (codes "a\n") ∷ []) ≡ failed (codes "?\n") (request.Read (codes "F") ∷ []) fault.Syntax) refl  -- address before a name
    ∷ row (ran (codes "wp\n") (options true None) (answer.Bytes (codes "a\n") ∷ []) ≡ failed (codes "?\n") (request.Read (codes "F") ∷ []) fault.Syntax) refl  -- suffix after a write
    ∷ row (ran (codes "w p\nq\n") (options true None) (answer.Bytes (codes "a\n") ∷ answer.Done ∷ []) ≡ ended [] (request.Read (codes "F") ∷ request.Write (codes "p") (codes "a\n") ∷ []) 1) refl  -- letter p as a name
    ∷ row (ran (codes "w a!\nq\n") (options true None) (answer.Bytes (codes "a\n") ∷ answer.Done ∷ []) ≡ ended [] (request.Read (codes "F") ∷ request.Write (codes "a!") (codes "a\n") ∷ []) 1) refl  -- exclamation mark in a name
    ∷ []
