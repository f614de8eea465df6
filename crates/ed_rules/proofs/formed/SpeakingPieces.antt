-- The pieces of rules on zones speak of the names of a rule alone.
use Rattle.std.proofs.Common.{◌≡◌, ◌<◌, ◌&&◌, inl, ℕ, zero, suc, ℤ, pos, negsuc, Bool, true, false, cond, List, Option, None, Some, refl, arith}
use Rattle.std.specs.Prelude.{nat_lt}
use Rattle.std.proofs.lemmas.Bool.{cond_both, ltb-true}
use Rattle.zones.specs.Name.{mark}
use Rattle.zones.specs.Bound.{sum_of}
use Rattle.zones.specs.Zone.{Bounds}
use Rattle.zones.specs.Known.{known, least, greatest}
use Rattle.zones.specs.Steps.{any_zone, after_guard, after_set, after_shift, after_forget, join_of}
use Rattle.ed_syntax.specs.Commands.{Addresses, Without, One, Comma, Semicolon}
use Rattle.ed_rules.specs.Marks.{is_sure, no_marks, for_each_sure}
use Rattle.ed_rules.specs.Formed.{has_name}
use Rattle.ed_rules.specs.States.{limited}
use Rattle.ed_rules.specs.Pieces.{guarded_by, mark_bounded, ended, mark_pushed, inserted, lifted, left_over, current_left, current_replaced}
use Rattle.ed_rules.specs.Addresses.{found}
use Rattle.ed_rules.specs.Lines.{current_inserted, lifted_range}
use Rattle.ed_rules.specs.Move.{less, mark_moved_up, moved_up, mark_moved_down, moved_down, moved_either}
use Rattle.ed_rules.specs.Substituting.{current_split, current_substituted, current_within}
use Rattle.ed_rules.specs.Files.{current_read, zone_loaded}
use Rattle.ed_rules.specs.Globals.{line_taken}
use Rattle.ed_rules.proofs.sound.Finishing.{for_each_sure-by}
use Rattle.ed_rules.proofs.formed.Speaking.{Speaks, IsNamed, Speaks-any, Speaks-guard, Speaks-set, Speaks-shift, Speaks-join}
use Rattle.ed_rules.proofs.formed.Naming.{is_spoken, low-spoken, letter-spoken, letter-named, Speaks-forgetting, Speaks-without_addresses, Speaks-without_letters_all}

-- a zone on the way through a rule
abbrev pub Inner : List Bool → Bounds → Type 0
Inner marks zone = Speaks (is_spoken marks) zone

-- the names that aren't letters
abbrev pub IsLow : ℕ → Type 0
IsLow x = nat_lt x 6 ≡ true

pub spoken : (marks : List Bool) (x : ℕ) → IsLow x → IsNamed (is_spoken marks) x
spoken marks x h = low-spoken marks x (ltb-true x 6 h)

pub Inner-guard : (marks : List Bool) (zone : Bounds) (x y : ℕ) (c : ℤ) → IsLow x → IsLow y → Inner marks zone → Inner marks (after_guard zone x y c)
Inner-guard marks zone x y c hx hy h = Speaks-guard (is_spoken marks) zone x y c (spoken marks x hx) (spoken marks y hy) h

pub Inner-set : (marks : List Bool) (zone : Bounds) (x y : ℕ) (c : ℤ) → IsLow x → IsLow y → Inner marks zone → Inner marks (after_set zone x y c)
Inner-set marks zone x y c hx hy h = Speaks-set (is_spoken marks) zone x y c (spoken marks x hx) (spoken marks y hy) h

pub Inner-shift : (marks : List Bool) (zone : Bounds) (x : ℕ) (low high : Option ℤ) → IsLow x → Inner marks zone → Inner marks (after_shift zone x low high)
Inner-shift marks zone x low high hx h = Speaks-shift (is_spoken marks) zone x low high (spoken marks x hx) h

pub Inner-forget : (marks : List Bool) (zone : Bounds) (x : ℕ) → Inner marks zone → Inner marks (after_forget zone x)
Inner-forget marks zone x h = Speaks-forgetting (is_spoken marks) zone x h

pub Inner-guarded_by : (marks : List Bool) (zone : Bounds) (x y : ℕ) (b : Option ℤ) → IsLow x → IsLow y → Inner marks zone → Inner marks (guarded_by zone x y b)
Inner-guarded_by marks zone x y None hx hy h = h
Inner-guarded_by marks zone x y (Some c) hx hy h = Inner-guard marks zone x y c hx hy h

-- by a test, whatever it says
Inner-if : (marks : List Bool) (b : Bool) (one other : Bounds) → Inner marks one → Inner marks other → Inner marks (cond b one other)
Inner-if marks b one other h k = cond_both b one other (λ z. Inner marks z) (λ e. h) (λ e. k)

-- a step for each sure letter
Speaks-for_each : (names : ℕ → Bool) (step : ℕ → Bounds → Bounds) (sure : List Bool) (zone : Bounds) →
    ((k : ℕ) (z : Bounds) → k < 26 → is_sure sure k ≡ true → Speaks names z → Speaks names (step k z)) → Speaks names zone → Speaks names (for_each_sure step sure 26 zone)
Speaks-for_each names step sure zone each h =
    for_each_sure-by (λ k z. Speaks names z) step sure zone h (λ k z l e q. each k z l e q) (λ k z l e q. q) 26 (omega arith)

Inner-letters : (marks : List Bool) (step : ℕ → Bounds → Bounds) (zone : Bounds) →
    ((k : ℕ) (z : Bounds) → IsNamed (is_spoken marks) (mark k) → Inner marks z → Inner marks (step k z)) → Inner marks zone → Inner marks (for_each_sure step marks 26 zone)
Inner-letters marks step zone each h = Speaks-for_each (is_spoken marks) step marks zone (λ k z l e q. each k z (letter-spoken marks k l e) q) h

-- THE END OF EACH RULE

named : (marks : List Bool) (x : ℕ) → x < 32 → has_name marks x ≡ true → IsNamed (has_name marks) x
named marks x h e = record { inside = h; named = e }

Speaks-mark_bounded : (marks : List Bool) (k : ℕ) (zone : Bounds) → IsNamed (has_name marks) (mark k) → Speaks (has_name marks) zone → Speaks (has_name marks) (mark_bounded k zone)
unfolding mark_bounded
Speaks-mark_bounded marks k zone n h =
    Speaks-guard (has_name marks) _ (mark k) 2 (pos 0) n (named marks 2 (omega arith) refl)
    (Speaks-guard (has_name marks) zone 0 (mark k) (negsuc 0) (named marks 0 (omega arith) refl) n h)

pub Speaks-ended : (marks : List Bool) (zone : Bounds) → Inner marks zone → Speaks (has_name marks) (ended marks zone)
unfolding ended
Speaks-ended marks zone h =
    Speaks-for_each (has_name marks) mark_bounded marks _ (λ k z l e q. Speaks-mark_bounded marks k z (letter-named marks k l e) q)
    (Speaks-guard (has_name marks) _ 1 2 (pos 0) (named marks 1 (omega arith) refl) (named marks 2 (omega arith) refl)
    (Speaks-guard (has_name marks) _ 0 1 (pos 0) (named marks 0 (omega arith) refl) (named marks 1 (omega arith) refl) (Speaks-without_addresses marks zone h)))

-- the start of a run
Speaks-limited : (marks : List Bool) (max : Option ℕ) (zone : Bounds) → Speaks (has_name marks) zone → Speaks (has_name marks) (limited max zone)
Speaks-limited marks None zone h = h
Speaks-limited marks (Some max) zone h = Speaks-guard (has_name marks) zone 2 0 (pos max) (named marks 2 (omega arith) refl) (named marks 0 (omega arith) refl) h

pub Speaks-start : (marks : List Bool) (max : Option ℕ) (c : ℤ) → Speaks (has_name marks) (after_set (limited max (after_guard any_zone 0 2 c)) 1 2 (pos 0))
Speaks-start marks max c =
    Speaks-set (has_name marks) _ 1 2 (pos 0) (named marks 1 (omega arith) refl) (named marks 2 (omega arith) refl)
    (Speaks-limited marks max _ (Speaks-guard (has_name marks) any_zone 0 2 c (named marks 0 (omega arith) refl) (named marks 2 (omega arith) refl) (Speaks-any (has_name marks))))

-- ADDRESSES

pub Inner-found : (marks : List Bool) (x : ℕ) (k : ℤ) (zone : Bounds) → IsLow x → Inner marks zone → Inner marks (found x k zone)
unfolding found
Inner-found marks x k zone hx h =
    Inner-shift marks _ x _ _ hx (Inner-guard marks _ x 2 _ hx refl (Inner-guard marks _ 0 x _ refl hx (Inner-forget marks zone x h)))

-- INS AND LIFT

Inner-mark_pushed : (marks : List Bool) (x : ℕ) (c : ℤ) (low high : Option ℤ) (k : ℕ) (zone : Bounds) → IsNamed (is_spoken marks) (mark k) → Inner marks zone → Inner marks (mark_pushed x c low high k zone)
unfolding mark_pushed
Inner-mark_pushed marks x c low high k zone n h =
    Inner-if marks _ _ _ h (Inner-if marks _ _ _ (Speaks-shift (is_spoken marks) zone _ low high n h) (Speaks-shift (is_spoken marks) zone _ _ high n h))

pub Inner-inserted : (marks : List Bool) (x : ℕ) (c : ℤ) (low high : Option ℤ) (zone : Bounds) → Inner marks zone → Inner marks (inserted x c low high marks zone)
unfolding inserted
Inner-inserted marks x c low high zone h =
    Inner-shift marks _ 2 low high refl (Inner-letters marks (mark_pushed x c low high) zone (λ k z n q. Inner-mark_pushed marks x c low high k z n q) h)

pub Inner-lifted : (marks : List Bool) (x : ℕ) (zone : Bounds) → IsLow x → Inner marks zone → Inner marks (lifted x zone)
unfolding lifted
Inner-lifted marks x zone hx h =
    let raised : Bounds = after_guard (after_shift zone x (Some (pos 0)) (Some (pos 1))) 0 x (negsuc 0) in
    let r : Inner marks raised = Inner-guard marks _ 0 x _ refl hx (Inner-shift marks zone x _ _ hx h) in
    Inner-if marks _ _ _ (Inner-set marks zone x 0 _ hx refl h)
    (Inner-if marks _ _ _ h (Inner-if marks _ _ _ (Inner-guard marks raised x 2 _ hx refl r) r))

pub Inner-lifted_range : (given : Addresses) (marks : List Bool) (zone : Bounds) → Inner marks zone → Inner marks (lifted_range given zone)
Inner-lifted_range Without marks zone h = Inner-guard marks _ 3 4 _ refl refl (Inner-lifted marks 4 _ refl (Inner-lifted marks 3 zone refl h))
Inner-lifted_range (One a) marks zone h =
    Inner-guard marks _ 3 4 _ refl refl (Inner-lifted marks 4 _ refl (Inner-set marks _ 4 3 _ refl refl (Inner-lifted marks 3 zone refl h)))
Inner-lifted_range (Comma a b) marks zone h = Inner-guard marks _ 3 4 _ refl refl (Inner-lifted marks 4 _ refl (Inner-lifted marks 3 zone refl h))
Inner-lifted_range (Semicolon a b) marks zone h = Inner-guard marks _ 3 4 _ refl refl (Inner-lifted marks 4 _ refl (Inner-lifted marks 3 zone refl h))

pub Inner-current_inserted : (marks : List Bool) (zone : Bounds) → Inner marks zone → Inner marks (current_inserted zone)
unfolding current_inserted
Inner-current_inserted marks zone h =
    Inner-if marks _ _ _ (Inner-set marks zone 1 3 _ refl refl h)
    (Inner-if marks _ _ _ (Inner-set marks zone 1 2 _ refl refl h)
    (Inner-guard marks _ 1 3 _ refl refl (Inner-guard marks _ 3 1 _ refl refl (Inner-forget marks zone 1 h))))

-- REPL

pub Inner-left_over : (marks : List Bool) (before zone : Bounds) → Inner marks zone → Inner marks (left_over before zone)
unfolding left_over
Inner-left_over marks before zone h =
    Inner-guarded_by marks _ 3 5 _ refl refl
    (Inner-guarded_by marks _ 5 3 _ refl refl (Inner-shift marks _ 5 _ _ refl (Inner-set marks zone 5 2 _ refl refl h)))

Inner-current_left : (marks : List Bool) (zone : Bounds) → Inner marks zone → Inner marks (current_left zone)
unfolding current_left
Inner-current_left marks zone h =
    Inner-if marks _ _ _ (Inner-set marks zone 1 3 _ refl refl h)
    (Inner-if marks _ _ _ (Inner-set marks zone 1 5 _ refl refl h)
    (Inner-guard marks _ 1 5 _ refl refl (Inner-guard marks _ 1 3 _ refl refl (Inner-guard marks _ 3 1 _ refl refl (Inner-forget marks zone 1 h)))))

pub Inner-current_replaced : (marks : List Bool) (n : ℕ) (zone : Bounds) → Inner marks zone → Inner marks (current_replaced n zone)
unfolding current_replaced
Inner-current_replaced marks zero zone h = Inner-current_left marks zone h
Inner-current_replaced marks (suc n) zone h = Inner-set marks zone 1 3 _ refl refl h

-- MOVES

Inner-mark_moved_up : (marks : List Bool) (before : Bounds) (k : ℕ) (zone : Bounds) → IsNamed (is_spoken marks) (mark k) → Inner marks zone → Inner marks (mark_moved_up before k zone)
unfolding mark_moved_up
Inner-mark_moved_up marks before k zone n h =
    let x : ℕ = mark k in
    Inner-if marks _ _ _ h
    (Inner-if marks (known before 5 x (negsuc 0) && known before x 3 (negsuc 0)) _ _
    (Speaks-shift (is_spoken marks) zone x (sum_of (least before 4 3) (Some (pos 1))) (sum_of (greatest before 4 3) (Some (pos 1))) n h)
    (Inner-if marks (known before 3 x (pos 0) && known before x 4 (pos 0)) _ _
    (Speaks-shift (is_spoken marks) zone x (less (pos 1) (greatest before 3 5)) (less (pos 1) (least before 3 5)) n h)
    (Inner-forget marks zone x h)))

pub Inner-moved_up : (marks : List Bool) (before : Bounds) → Inner marks before → Inner marks (moved_up marks before)
unfolding moved_up
Inner-moved_up marks before h =
    Inner-letters marks (mark_moved_up before) _ (λ k z n q. Inner-mark_moved_up marks before k z n q)
    (Inner-shift marks _ 1 _ _ refl (Inner-set marks before 1 5 _ refl refl h))

Inner-mark_moved_down : (marks : List Bool) (before : Bounds) (k : ℕ) (zone : Bounds) → IsNamed (is_spoken marks) (mark k) → Inner marks zone → Inner marks (mark_moved_down before k zone)
unfolding mark_moved_down
Inner-mark_moved_down marks before k zone n h =
    let x : ℕ = mark k in
    Inner-if marks _ _ _ h
    (Inner-if marks (known before 4 x (negsuc 0) && known before x 5 (pos 0)) _ _
    (Speaks-shift (is_spoken marks) zone x (less (negsuc 0) (greatest before 4 3)) (less (negsuc 0) (least before 4 3)) n h)
    (Inner-if marks (known before 3 x (pos 0) && known before x 4 (pos 0)) _ _
    (Speaks-shift (is_spoken marks) zone x (least before 5 4) (greatest before 5 4) n h)
    (Inner-forget marks zone x h)))

pub Inner-moved_down : (marks : List Bool) (before : Bounds) → Inner marks before → Inner marks (moved_down marks before)
unfolding moved_down
Inner-moved_down marks before h =
    Inner-letters marks (mark_moved_down before) _ (λ k z n q. Inner-mark_moved_down marks before k z n q) (Inner-set marks before 1 5 _ refl refl h)

pub Inner-moved_either : (marks : List Bool) (before : Bounds) → Inner marks before → Inner marks (moved_either marks before)
unfolding moved_either
Inner-moved_either marks before h =
    let names : ℕ → Bool = is_spoken marks in
    Speaks-join names names names (moved_up marks (after_guard before 5 3 (negsuc 0))) (moved_down marks (after_guard before 4 5 (negsuc 0)))
    (λ x hx e. inl e)
    (Inner-moved_up marks (after_guard before 5 3 (negsuc 0)) (Inner-guard marks before 5 3 (negsuc 0) refl refl h))
    (Inner-moved_down marks (after_guard before 4 5 (negsuc 0)) (Inner-guard marks before 4 5 (negsuc 0) refl refl h))

-- SUBSTITUTION

Inner-current_split : (marks : List Bool) (below above : Option ℤ) (zone : Bounds) → Inner marks zone → Inner marks (current_split below above zone)
unfolding current_split
Inner-current_split marks below above zone h =
    Inner-guarded_by marks _ 2 1 _ refl refl
    (Inner-guarded_by marks _ 1 2 _ refl refl (Inner-guard marks _ 4 1 _ refl refl (Inner-forget marks _ 1 (Inner-shift marks zone 2 _ _ refl h))))

pub Inner-current_substituted : (splits : Bool) (marks : List Bool) (before zone : Bounds) → Inner marks zone → Inner marks (current_substituted splits before zone)
Inner-current_substituted true marks before zone h = Inner-current_split marks _ _ zone h
Inner-current_substituted false marks before zone h = Inner-set marks zone 1 4 _ refl refl h

pub Inner-current_within : (splits : Bool) (marks : List Bool) (zone : Bounds) → Inner marks zone → Inner marks (current_within splits zone)
unfolding current_within
Inner-current_within true marks zone h =
    Inner-guard marks _ 1 2 _ refl refl
    (Inner-guard marks _ 3 1 _ refl refl (Inner-forget marks _ 1 (Inner-shift marks zone 2 _ _ refl h)))
Inner-current_within false marks zone h =
    Inner-guard marks _ 1 4 _ refl refl (Inner-guard marks _ 3 1 _ refl refl (Inner-forget marks zone 1 h))

-- FILES AND GLOBALS

pub Inner-current_read : (marks : List Bool) (before zone : Bounds) → Inner marks zone → Inner marks (current_read before zone)
unfolding current_read
Inner-current_read marks before zone h =
    Inner-guarded_by marks _ 2 1 _ refl refl
    (Inner-guarded_by marks _ 1 2 _ refl refl (Inner-guard marks _ 3 1 _ refl refl (Inner-forget marks zone 1 h)))

pub Inner-zone_loaded : (marks : List Bool) (zone : Bounds) → Inner marks zone → Inner no_marks (zone_loaded zone)
unfolding zone_loaded
Inner-zone_loaded marks zone h =
    Inner-set no_marks _ 1 2 _ refl refl
    (Inner-guard no_marks _ 0 2 _ refl refl (Speaks-without_letters_all marks _ (Inner-forget marks _ 2 (Inner-forget marks zone 1 h))))

pub Inner-line_taken : (marks : List Bool) (zone : Bounds) → Inner marks zone → Inner marks (line_taken zone)
unfolding line_taken
Inner-line_taken marks zone h = Inner-guard marks _ 1 2 _ refl refl (Inner-guard marks _ 0 1 _ refl refl (Inner-forget marks zone 1 h))
