-- Worked runs that are cut at one of their steps, where memory ran out.
use Rattle.std.specs.Prelude.{◌≡◌, refl, ℕ, true, List, [], ◌∷◌, Some, None, Err, codes}
use Rattle.std.specs.Fmt.{digits}
use Rattle.ed_base.specs.declared.fault.Fault.TheVariants as fault
use Rattle.ed_syntax.specs.declared.request.Answer.TheVariants as answer
use Rattle.ed_syntax.specs.meaning.Progress.{Ends}
use Rattle.ed_syntax.proofs.meaning.Worked.{cut_short, ran_short, fails, options}
use Rattle.ed_syntax.proofs.meaning.Worked.{Row, row}

abbrev two : List ℕ
two = codes "a\nb\n"

-- commands: the start file's answer and its count are the first two steps

abbrev modes : List ℕ
modes = codes ",p\nH\n,n\nQ\n"

commands : List Row
unfolding digits
commands =
    row (cut_short two modes 0 0 ≡ record { output = codes "?\n"; asked = []; stop = Ends (Err fault.Memory) }) refl  -- before the start file
    ∷ row (cut_short two modes 1 0 ≡ fails (codes "?\n") fault.Memory) refl  -- after the start file
    ∷ row (cut_short two modes 2 3 ≡ fails (codes "a\nb?\n") fault.Memory) refl  -- inside an output
    ∷ row (cut_short two modes 3 0 ≡ fails (codes "a\nb\n?\n") fault.Memory) refl  -- before help mode
    ∷ row (cut_short two modes 4 2 ≡ fails (codes "a\nb\n1\t?\nout of memory\n") fault.Memory) refl  -- inside help mode
    ∷ row (cut_short two modes 5 0 ≡ fails (codes "a\nb\n1\ta\n2\tb\n?\nout of memory\n") fault.Memory) refl  -- at the end
    -- a run that has ended by a fault is cut no more
    ∷ row (cut_short two (codes "9p\n") 3 0 ≡ fails (codes "?\n") fault.Address) refl  -- after a fault
    ∷ []

-- prompts
prompts : List Row
prompts =
    row (ran_short (codes "H\np\nQ\n") (options true (Some (codes "> "))) (answer.Bytes two ∷ []) 4 1
    ≡ fails (codes "> >?\nout of memory\n") fault.Memory) refl  -- inside a prompt
    ∷ row (ran_short (codes "H\n") (options true (Some (codes "> "))) (answer.Bytes two ∷ []) 4 2
    ≡ fails (codes "> > ?\nout of memory\n") fault.Memory) refl  -- before the end is found
    -- a run that waits
    ∷ row (ran_short (codes "p\n") (options true None) [] 0 0 ≡ record { output = codes "?\n"; asked = []; stop = Ends (Err fault.Memory) }) refl  -- while waiting
    ∷ []
