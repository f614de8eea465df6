-- Starts that are allowed, and what two bounds say of them.
use Rattle.std.proofs.Common.{◌≡◌, ◌≤◌, ◌∙◌, ℕ, Bool, true, false, List, [], ◌∷◌, Option, Some, None, refl, sym, subst, lit≤}
use Rattle.std.specs.Prelude.{IfSome}
use Rattle.std.proofs.lemmas.Bool.{leb-true}
use Rattle.ed_rules.specs.LineBounds.{IsAtMost, is_within, most_lines}
use Rattle.ed_session.specs.Drives.{Log}
use Rattle.ed_calls.specs.Starts.{AreAllowed, path_of}
use Rattle.ed_calls.specs.declared.starts.Starts.{Starts}
use Rattle.ed_main.specs.Job.{IsGiven}
use Rattle.ed_main.specs.Starts.{AreStarts, HasBytes, any_start}
use Rattle.ed_main.specs.Wanted.{AreFound, IsNoStart, IsWanted, WithStarts, fault_of, landmarked, read, unread}
use Rattle.ed_main.specs.declared.proposing.NoStart.{NoStart}
use Rattle.ed_main.specs.declared.wanted.Wanted.{Wanted}
use Rattle.ed_main.specs.declared.wanted.Wanted.TheVariants as wanted
use Rattle.ed_main.specs.Several.{status_of_unread}
use Rattle.ed_main.specs.Words.{are_in_order, file_for, is_path, starts_of, vouching_of}

-- any start with a file, or the empty buffer
pub any_allowed : (path : Option (List ℕ)) (has : Option (List (List ℕ))) → AreAllowed (any_start path has)
any_allowed None has = record { ordered = tt; low = tt; high = lit≤ tt }
any_allowed (Some path) has = record { ordered = tt; low = tt; high = tt }

any_kept : (path : Option (List ℕ)) (has : Option (List (List ℕ))) → path_of (any_start path has) ≡ path
any_kept path has = refl

at_most : (lines : ℕ) (limit : Option ℕ) → is_within lines limit ≡ true → IsAtMost lines limit
at_most lines None within = tt
at_most lines (Some most) within = leb-true lines most within

-- at most so many lines as a certificate tells of, where they are given
abbrev pub AreFew : Option ℕ → Type 0
AreFew given = IfSome given (λ lines. lines ≤ most_lines)

module _ (path : Option (List ℕ)) (has : Option (List (List ℕ))) where
  -- a start of bounds that are in order and few
  pub bounds_allowed : (least : Option ℕ) (most : Option (Option ℕ)) → are_in_order least most ≡ true → AreFew least → IfSome most AreFew
      → AreAllowed (starts_of path least most has)
  bounds_allowed (Some least) (Some most) order low high = record { ordered = at_most least most order; low = low; high = high }
  bounds_allowed (Some least) None order low high = record { ordered = tt; low = low; high = tt }
  bounds_allowed None (Some most) order low high = record { ordered = tt; low = tt; high = high }
  bounds_allowed None None order low high = any_allowed path has

  -- it has the path that is given
  pub path_kept : (least : Option ℕ) (most : Option (Option ℕ)) → path_of (starts_of path least most has) ≡ path
  path_kept (Some least) (Some most) = refl
  path_kept (Some least) None = refl
  path_kept None (Some most) = refl
  path_kept None None = any_kept path has

pub path_has_bytes : (path : Option (List ℕ)) → is_path path ≡ true → HasBytes path
path_has_bytes None named is = cc
path_has_bytes (Some []) named is = cc
path_has_bytes (Some (byte ∷ bytes)) named is = cc

-- any file has a name too
pub file_is_path : (path : Option (List ℕ)) (scripts : List (List ℕ)) → is_path path ≡ true → is_path (file_for path scripts) ≡ true
file_is_path None [] named = named
file_is_path None (script ∷ []) named = named
file_is_path None (script ∷ next ∷ scripts) named = refl
file_is_path (Some path) scripts named = named

-- what is known of the starts of a job
pub starts_given : (path : Option (List ℕ)) (least : Option ℕ) (most : Option (Option ℕ)) (has : Option (List (List ℕ)))
    → are_in_order least most ≡ true → AreFew least → IfSome most AreFew → is_path path ≡ true → AreStarts (starts_of path least most has)
starts_given path least most has order low high named =
    record {
      allowed = bounds_allowed path has least most order low high;
      path = λ is. path_has_bytes path named (sym (path_kept path has least most) ∙ is);
    }

-- any start with a file is one of these
pub any_given : (path : Option (List ℕ)) (has : Option (List (List ℕ))) → is_path path ≡ true → AreStarts (any_start path has)
any_given path has named = record { allowed = any_allowed path has; path = λ is. path_has_bytes path named (sym (any_kept path has) ∙ is) }

-- a job of `vouch` has the start that it was made of
pub vouching_given : (over : Wanted) (scripts : List (List ℕ)) (all quiet : Bool) → IsWanted over → IsGiven (vouching_of over scripts all quiet)
vouching_given over scripts all true given = given
vouching_given over [] all false given = given
vouching_given over (script ∷ []) all false given = given
vouching_given over (script ∷ next ∷ scripts) all false given = given

module _ (Used : Starts → ℕ → Type 0) (status : ℕ) where
  -- what was found was used
  pub used : (before after : Log) (over : Wanted) (starts : Starts) → AreFound over before after starts → Used starts status → WithStarts over Used status
  used before after (wanted.Stated given at) starts is came = landmarked starts is.0 came
  used before after (wanted.Like path patterns like) starts is came = read is.file (subst (λ s. Used s status) is.exact came)

  -- or the file wasn't read
  pub unused : (before after : Log) (over : Wanted) (none : NoStart) → IsNoStart over before after none → status ≡ status_of_unread (fault_of none.unfit)
      → WithStarts over Used status
  unused before after (wanted.Stated given at) none is same = absurd is
  unused before after (wanted.Like path patterns like) none is same = unread (fault_of none.unfit) same
