-- What commands make of a file's answer.
use Rattle.std.proofs.Common.{◌≡◌, ℕ, List, [], ◌∷◌, Some, Option, Result, Ok, Err, refl, sym, ap, subst, ◌∙◌}
use Rattle.std.specs.Prelude.{IsOkAnd}
use Rattle.ed_base.specs.Lines.{lines_of}
use Rattle.ed_base.specs.declared.fault.Fault.{Fault}
use Rattle.ed_syntax.specs.declared.request.Answer.{Answer}
use Rattle.ed_syntax.specs.meaning.States.{State}
use Rattle.ed_syntax.specs.meaning.Values.{◌>>◌}
use Rattle.ed_syntax.specs.meaning.Ranges.{Span}
use Rattle.ed_syntax.specs.meaning.Effects.{Makes, entered}
use Rattle.ed_syntax.specs.meaning.Files.{used_path, named_first, bytes_read, with_bytes, read}
use Rattle.ed_commands.specs.declared.editor.past.Before.{Before}
use Rattle.ed_commands.specs.Editors.{Leaves, left_by, naming}

-- lines that enter write nothing
quiet : (a : ℕ) (text : List (List ℕ)) (s : State) → [] ≡ (entered a text s).output
quiet a [] s = refl
quiet a (line ∷ more) s = refl

-- the same, by the path that is used
read-at : (path : Result (List ℕ) Fault) (given : Answer) (bytes : List ℕ) (x : Span) (b : Before) (s mid new : State) →
    (path >> λ used. Ok (named_first used s)) ≡ Ok mid → bytes_read given ≡ Ok bytes → new ≡ left_by b mid (entered x.first (lines_of bytes) mid) →
    IsOkAnd (path >> λ used. with_bytes used (Some given) (λ bytes. entered x.first (lines_of bytes) (named_first used s))) (Leaves b s new [])
read-at (Ok used) given bytes x b s mid new named are left =
    let is : named_first used s ≡ mid = cc in
    subst (λ r. IsOkAnd (r >> λ bytes. Ok (Makes (entered x.first (lines_of bytes) (named_first used s)))) (Leaves b s new [])) (sym are)
    (left ∙ ap (λ t. left_by b t (entered x.first (lines_of bytes) t)) (sym is), quiet x.first (lines_of bytes) (named_first used s))
read-at (Err fault) given bytes x b s mid new named are left = absurd cc

-- the lines of a file that was read entered
pub read-in : (path : Option (List ℕ)) (given : Answer) (bytes : List ℕ) (x : Span) (b : Before) (s mid new : State) →
    naming path s ≡ Ok mid → bytes_read given ≡ Ok bytes → new ≡ left_by b mid (entered x.first (lines_of bytes) mid) →
    IsOkAnd (read path (Some given) x s) (Leaves b s new [])
read-in path given bytes x b s mid new = read-at (used_path path s) given bytes x b s mid new
