-- When two scripts are the same but for some of their commands.
use Rattle.std.specs.Prelude.{ℕ, ◌+◌, ◌≤◌, ◌≡◌, length, take, drop, is_some, true}
use Rattle.ed_syntax.specs.Commands.{Script}

-- In both scripts the commands before a place are the same.
pub record BeginAlike (before : ℕ) (old new : Script) : Type 0 where
  pub in_old : before ≤ length old.steps
  pub in_new : before ≤ length new.steps
  pub begun : take before old.steps ≡ take before new.steps

-- The new script has some commands in place of others of the old one: those before them are the same, and so are those after them. Both can be
-- read to their ends, or neither; on which line it is that can't be read makes no difference to a run.
pub record IsChangedAt (before removed added : ℕ) (old new : Script) : Type 0 where
  pub alike : BeginAlike before old new
  pub in_old : before + removed ≤ length old.steps
  pub in_new : before + added ≤ length new.steps
  pub ended : drop (before + removed) old.steps ≡ drop (before + added) new.steps
  pub readable : is_some old.fault ≡ is_some new.fault

-- The new script has all commands of the old one, up to the one that can't be read there, and may go on.
pub record IsReadFurther (old new : Script) : Type 0 where
  pub unreadable : is_some old.fault ≡ true
  pub alike : BeginAlike (length old.steps) old new
