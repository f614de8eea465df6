-- Scripts that begin and end alike, by the commands that lie in memory.
use Rattle.std.proofs.Common.{◌≡◌, ◌↔◌, ℕ, ◌+◌, ◌-◌, ◌≤◌, Bool, List, length, take, drop, IsTrue, sym, ◌∙◌, ap, arith}
use Rattle.std.specs.Prelude.{is_some}
use Rattle.std.proofs.lemmas.List.{take-map, drop-map, length-map, take_rest}
use Rattle.ed_syntax.specs.declared.command.Command.{Command}
use Rattle.ed_syntax.specs.declared.script.Script.{Script}
use Rattle.ed_syntax.specs.PublicTypes.{step_value, steps_value}
use Rattle.ed_syntax.specs.PublicScript.{script_value}
use Rattle.ed_syntax.specs.Changed.{BeginAlike, IsChangedAt}

pub begin_alike : (n : ℕ) (old new : Script) (xs ys : List Command) (same : Bool) → xs ≡ take n old.commands.items → ys ≡ take n new.commands.items →
    n ≤ length old.commands.items → n ≤ length new.commands.items → IsTrue same ↔ (steps_value xs ≡ steps_value ys) →
    IsTrue same ↔ BeginAlike n (script_value old) (script_value new)
begin_alike n old new xs ys same is_old is_new in_old in_new exact =
    let olds = take-map step_value n old.commands.items ∙ ap steps_value (sym is_old) in
    let news = take-map step_value n new.commands.items ∙ ap steps_value (sym is_new) in (
      λ yes. record {
        in_old = omega (arith, in_old, length-map old.commands.items step_value);
        in_new = omega (arith, in_new, length-map new.commands.items step_value);
        begun = olds ∙ exact.0 yes ∙ sym news;
      },
      λ alike. exact.1 (sym olds ∙ alike.begun ∙ news),
    )

-- what stands after a place, as a slice has it
pub what_follows : (n : ℕ) (xs ys : List Command) → xs ≡ ys → take (length xs - n) (drop n xs) ≡ drop n ys
what_follows n xs ys same = take_rest xs n ∙ ap (drop n) same

pub changed_at : (n removed added : ℕ) (old new : Script) (xs ys : List Command) (same : Bool) → xs ≡ drop (n + removed) old.commands.items → ys ≡ drop (n + added) new.commands.items →
    removed ≤ length old.commands.items - n → added ≤ length new.commands.items - n → BeginAlike n (script_value old) (script_value new) →
    is_some old.fault ≡ is_some new.fault → IsTrue same ↔ (steps_value xs ≡ steps_value ys) →
    IsTrue same ↔ IsChangedAt n removed added (script_value old) (script_value new)
changed_at n removed added old new xs ys same is_old is_new in_old in_new alike readable exact =
    let olds = drop-map step_value (n + removed) old.commands.items ∙ ap steps_value (sym is_old) in
    let news = drop-map step_value (n + added) new.commands.items ∙ ap steps_value (sym is_new) in (
      λ yes. record {
        alike = alike;
        in_old = omega (arith, alike.in_old, in_old, length-map old.commands.items step_value);
        in_new = omega (arith, alike.in_new, in_new, length-map new.commands.items step_value);
        ended = olds ∙ exact.0 yes ∙ sym news;
        readable = readable;
      },
      λ changed. exact.1 (sym olds ∙ changed.ended ∙ news),
    )
