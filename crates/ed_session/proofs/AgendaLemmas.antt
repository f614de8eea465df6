-- What is left of a list and of a script, and its first command.
use Rattle.std.proofs.Common.{◌≡◌, ℕ, ◌≤◌, ◌<◌, ◌+◌, ◌-◌, List, [], ◌∷◌, arith, nat_lt, length, map, drop, slice_index_or, Option, Some, None, refl, sym, ap, ◌∙◌, subst, zero, suc, add-one}
use Rattle.std.specs.Prelude.{is_some, IsSome}
use Rattle.std.proofs.Math.Seq.{drop-cons}
use Rattle.std.proofs.lemmas.List.{length-map, length-drop, drop-drop, drop-map, drop_all}
use Rattle.std.proofs.lemmas.Bool.Decides.{nat_tests}
use Rattle.ed_syntax.specs.declared.command.Command as rust
use Rattle.ed_syntax.specs.Commands.{Command, Step}
use Rattle.ed_syntax.specs.PublicTypes.{command_value, step_value, steps_value}
use Rattle.ed_session.specs.Sessions.{RunningList}
use Rattle.ed_session.specs.declared.agenda.Countdown as counted
use Rattle.ed_session.specs.Agendas.{AgendaValue, IsWithin, running_of, next_command, first_listed, first_command, list_at, last_of, passed, opened_for}

-- what is left of a global command and of a script
abbrev pub agenda_of : Option RunningList → List Step → AgendaValue
agenda_of t xs = record { running_list = t; steps = xs }

-- what is left where a global command is open
pub in_list : (commands : List rust.Command) (o : Option counted.Countdown) (t : counted.Countdown) (xs : List Step) (a : AgendaValue) → o ≡ Some t → IsWithin commands o → agenda_of (running_of commands o) xs ≡ a →
    IsWithin commands (Some t) × (agenda_of (running_of commands (Some t)) xs ≡ a)
in_list commands o t xs a is within same = (subst (IsWithin commands) is within, subst (λ o. agenda_of (running_of commands o) xs ≡ a) is same)

-- there is a first one where some are left
listed_there : (left : List Command) → is_some (first_listed left) ≡ nat_lt 0 (length left)
listed_there [] = refl
listed_there (c ∷ left) = grind (arith, nat_tests)

stepped_there : (xs : List Step) → is_some (first_command xs) ≡ nat_lt 0 (length xs)
stepped_there [] = refl
stepped_there (x ∷ xs) = grind (arith, nat_tests)

less_than : (n m : ℕ) → nat_lt 0 (m - n) ≡ nat_lt n m
less_than n m = grind (arith, nat_tests)

-- so many are left as are counted
pub list_length : (list : List Command) (n : ℕ) → n ≤ length list → length (last_of n list) ≡ n
list_length list n h = omega (arith, length-drop (length list - n) list)

-- in a list
pub list_has : (list : List Command) (n : ℕ) → n ≤ length list → nat_lt 0 n ≡ is_some (first_listed (last_of n list))
list_has list n h = ap (λ k. nat_lt 0 k) (sym (list_length list n h)) ∙ sym (listed_there (last_of n list))

-- in a script
pub script_has : (xs : List rust.Command) (n : ℕ) → nat_lt n (length xs) ≡ is_some (first_command (steps_value (drop n xs)))
script_has xs n =
    let same : length (steps_value (drop n xs)) ≡ length xs - n = length-map (drop n xs) step_value ∙ length-drop n xs in
    sym (less_than n (length xs)) ∙ ap (λ k. nat_lt 0 k) (sym same) ∙ sym (stepped_there (steps_value (drop n xs)))

-- the steps from the next one on
pub script_next : (xs : List rust.Command) (n : ℕ) (x : rust.Command) → n < length xs → x ≡ slice_index_or xs n x → steps_value (drop n xs) ≡ step_value x ∷ steps_value (drop (n + 1) xs)
script_next xs n x h e = rw (add-one, drop-cons xs n x h) (ap (λ y. step_value y ∷ steps_value (drop (suc n) xs)) (sym e))

-- the next command of a list
pub list_next : (xs : List rust.Command) (list : List Command) (n : ℕ) (x : rust.Command) → map command_value xs ≡ list → 0 < n → n ≤ length list → x ≡ slice_index_or xs (length xs - n) x
    → first_listed (last_of n list) ≡ Some (command_value x)
list_next xs list n x is some below e =
    let same : length list ≡ length xs = ap length (sym is) ∙ length-map xs command_value in
    let left : drop (length xs - n) xs ≡ x ∷ drop (suc (length xs - n)) xs = drop-cons xs (length xs - n) x (omega arith) ∙ ap (λ y. y ∷ drop (suc (length xs - n)) xs) (sym e) in
    ap (λ m. first_listed (drop (m - n) list)) same
    ∙ ap (λ l. first_listed (drop (length xs - n) l)) (sym is)
    ∙ ap first_listed (drop-map command_value (length xs - n) xs ∙ ap (λ l. map command_value l) left)

-- one command less is left
pub list_passed : (list : List Command) (n : ℕ) → 0 < n → n ≤ length list → last_of (n - 1) list ≡ drop 1 (last_of n list)
list_passed list n some below = sym (drop-drop 1 (length list - n) list ∙ ap (λ k. drop k list) (omega arith))

pub script_passed : (xs : List rust.Command) (n : ℕ) → steps_value (drop (n + 1) xs) ≡ drop 1 (steps_value (drop n xs))
script_passed xs n = sym (drop-map step_value 1 (drop n xs) ∙ ap steps_value (drop-drop 1 n xs))

-- none is left
pub list_done : (list : List Command) → last_of 0 list ≡ []
list_done list = drop_all (length list - 0) list (omega arith)

-- a global command was opened
pub is_opened : (xs : List rust.Command) (n lines : ℕ) (t : Option RunningList) → agenda_of (Some (record { left = last_of 0 (list_at xs n); list = list_at xs n; lines = lines })) (steps_value (drop (n + 1) xs))
    ≡ opened_for lines (agenda_of t (steps_value (drop n xs)))
is_opened xs n lines t =
    ap (λ l. agenda_of (Some (record { left = l; list = list_at xs n; lines = lines })) (steps_value (drop (n + 1) xs))) (list_done (list_at xs n))
    ∙ ap (agenda_of (Some (record { left = []; list = list_at xs n; lines = lines }))) (script_passed xs n)

-- the next command was done
pub is_passed_in_list : (list : List Command) (left lines : ℕ) (xs : List Step) → 0 < left → left ≤ length list
    → agenda_of (Some (record { left = last_of (left - 1) list; list = list; lines = lines })) xs ≡ passed (agenda_of (Some (record { left = last_of left list; list = list; lines = lines })) xs)
is_passed_in_list list left lines xs some below = ap (λ l. agenda_of (Some (record { left = l; list = list; lines = lines })) xs) (list_passed list left some below)

pub is_passed : (xs : List rust.Command) (n : ℕ) → agenda_of None (steps_value (drop (n + 1) xs)) ≡ passed (agenda_of None (steps_value (drop n xs)))
is_passed xs n = ap (agenda_of None) (script_passed xs n)

-- some are left where there is a next one
some_left : (list : List Command) (n : ℕ) → n ≤ length list → IsSome (first_listed (last_of n list)) → 0 < n
some_left list zero h there = let none : IsSome (first_listed []) = subst IsSome (ap first_listed (list_done list)) there in cc
some_left list (suc n) h there = omega arith

pub some_in_list : (commands : List rust.Command) (t : counted.Countdown) (xs : List Step) (a : AgendaValue) →
    IsWithin commands (Some t) × (agenda_of (running_of commands (Some t)) xs ≡ a) → IsSome (next_command a.running_list a.steps) → 0 < t.left
some_in_list commands t xs a inside there = some_left (list_at commands t.global) t.left inside.0.1 (subst (λ u. IsSome (next_command u.running_list u.steps)) (sym inside.1) there)
