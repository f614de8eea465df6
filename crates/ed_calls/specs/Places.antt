-- The order in which a run comes to commands and to those of lists (our own).
use Rattle.std.specs.Prelude.{ℕ, Bool, true, false, ◌||◌, ◌&&◌, Option, Some, None, nat_lt, nat_eq}
use Rattle.cert_check.specs.declared.checker.verdict.Place.{Place}

-- a command's list comes after it and before the next command
abbrev pub comes_first : Option ℕ → Option ℕ → Bool
comes_first None None = false
comes_first None (Some inner) = true
comes_first (Some one) None = false
comes_first (Some one) (Some other) = nat_lt one other

abbrev pub is_before : Place → Place → Bool
is_before one other =
    nat_lt one.command other.command || (nat_eq one.command other.command && comes_first one.inner other.inner)
