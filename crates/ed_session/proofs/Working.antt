-- How much less is left to do after a command, after a line was taken, and after a global command began or ended.
use Rattle.std.proofs.Common.{◌≡◌, ℕ, ◌≤◌, ◌<◌, ◌+◌, ◌-◌, ◌*◌, ◌^◌, List, [], ◌∷◌, arith, length, drop, false, Option, Some, None, ap, ◌∙◌, suc}
use Rattle.std.proofs.Math.Nat.{mul-le-mul_right, suc-mul}
use Rattle.std.proofs.lemmas.List.{length-drop}
use Rattle.ed_syntax.specs.Commands.{Command, Step}
use Rattle.ed_session.specs.declared.phase.Phase.{Phase}
use Rattle.ed_session.specs.declared.phase.Phase.TheVariants as phases
use Rattle.ed_session.specs.Sessions.{SessionValue, RunningList, is_over}
use Rattle.ed_session.specs.Agendas.{first_listed, first_list, next_command, running_after, steps_after, list_again}
use Rattle.ed_session.specs.Work.{phase_work, pending_work, work, lines_work, running_work, step_work, steps_work}

-- what is left of a global command, and of the script after it
abbrev pub both_work : Option RunningList → List Step → ℕ
both_work t xs = running_work t + steps_work xs

step_some : (x : Step) → 2 ≤ step_work x
unfolding step_work
step_some x = omega arith

listed_some : (left : List Command) (c : Command) → first_listed left ≡ Some c → length (drop 1 left) + 1 ≡ length left
listed_some [] c e = cc
listed_some (d ∷ left) c e = omega (arith, length-drop 1 (d ∷ left))

stepped_less : (xs : List Step) (c : Command) → next_command None xs ≡ Some c → steps_work (drop 1 xs) + 1 ≤ steps_work xs
stepped_less [] c e = cc
stepped_less (x ∷ xs) c e = omega (arith, step_some x)

-- the next command was done
pub passed_less : (t : Option RunningList) (xs : List Step) (c : Command) → next_command t xs ≡ Some c → both_work (running_after t) (steps_after t xs) + 1 ≤ both_work t xs
passed_less None xs c e = omega (arith, stepped_less xs c e)
passed_less (Some t) xs c e = omega (arith, listed_some t.left c e)

more_lines : (n most k : ℕ) → n ≤ most → lines_work n k ≤ lines_work most k
unfolding lines_work
more_lines n most k h = mul-le-mul_right (1 + k) h

one_line : (n k : ℕ) → 0 < n → lines_work n k ≡ lines_work (n - 1) k + (1 + k)
unfolding lines_work
one_line n k h = let same : n ≡ suc (n - 1) = omega arith in ap (λ m. m * (1 + k)) same ∙ suc-mul (n - 1) (1 + k)

-- a global command began
pub opened_less : (xs : List Step) (c : Command) (lines : ℕ) → next_command None xs ≡ Some c → lines < 2 ^ 64
    → both_work (Some (record { left = []; list = first_list xs; lines = lines })) (drop 1 xs) + 1 ≤ both_work None xs
unfolding step_work
opened_less [] c lines e h = cc
opened_less (x ∷ xs) c lines e h = omega (arith, more_lines lines (2 ^ 64) (length x.list) (omega arith))

-- a line was taken
pub repeated_less : (t : RunningList) (xs : List Step) → 0 < t.lines → both_work (Some (list_again t)) xs + 1 ≤ both_work (Some t) xs
repeated_less t xs h = omega (arith, one_line t.lines (length t.list) h)

phase_some : (p : Phase) → is_over p ≡ false → 1 ≤ phase_work p
phase_some (phases.Fresh path) h = omega arith
phase_some phases.Between h = omega arith
phase_some phases.Prompted h = omega arith
phase_some phases.Waiting h = omega arith
phase_some (phases.Over result) h = cc

pending_few : (bytes : List ℕ) → pending_work bytes ≤ 1
pending_few [] = omega arith
pending_few (b ∷ bytes) = omega arith

-- what is left to do in a phase
abbrev pub left_at : Phase → Option RunningList → List Step → List ℕ → ℕ
left_at p t xs pending = phase_work p + 4 * both_work t xs + pending_work pending

-- where less is left of the script and of an open global command, less is left to do, whatever was written
pub works_or_writes : (v : SessionValue) (t : Option RunningList) (xs : List Step) (pending : List ℕ) → is_over v.phase ≡ false → both_work t xs + 1 ≤ both_work v.running_list v.steps
    → left_at phases.Between t xs pending ≤ work v
works_or_writes v t xs pending running less = omega (arith, phase_some v.phase running, pending_few pending)

pub works_less : (v : SessionValue) (t : Option RunningList) (xs : List Step) (pending : List ℕ) → is_over v.phase ≡ false → pending ≡ [] → both_work t xs + 1 ≤ both_work v.running_list v.steps
    → left_at phases.Between t xs pending < work v
works_less v t xs pending running none less =
    let nothing : pending_work pending ≡ 0 = ap pending_work none in
    omega (arith, phase_some v.phase running)

pub works_same : (v : SessionValue) (p : Phase) (t : Option RunningList) (xs : List Step) (pending : List ℕ) → p ≡ v.phase → pending ≡ v.pending → both_work t xs + 1 ≤ both_work v.running_list v.steps
    → left_at p t xs pending < work v
works_same v p t xs pending same none less =
    let phase : phase_work p ≡ phase_work v.phase = ap phase_work same in
    let nothing : pending_work pending ≡ pending_work v.pending = ap pending_work none in
    omega arith
