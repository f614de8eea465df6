-- What a file gives of a start is part of one.
use Rattle.std.proofs.Common.{◌≡◌, ◌≤◌, Bool, true, false, Option, Some, None, arith}
use Rattle.std.specs.Prelude.{if◌then◌else◌}
use Rattle.ed_syntax.specs.Commands.{Script}
use Rattle.ed_rules.specs.LineBounds.{most_lines}
use Rattle.hints.specs.declared.given.Given.{Given}
use Rattle.hints.specs.declared.like.Like.{Like}
use Rattle.hints.specs.Like.{given_like, given_within, is_by_numbers, lines_in}
use Rattle.ed_calls.specs.Starts.{IsPartOfStart}

-- as many lines as it has, or any number
part-at : (numbered : Bool) (like : Like) (given : Given) →
    given ≡ (if numbered then given_within like (Some (lines_in like)) (Some (lines_in like)) else given_within like None None) →
    lines_in like ≤ most_lines → IsPartOfStart given.min given.max
part-at true like given is few = rw is (record { ordered = omega arith; low = few; high = few })
part-at false like given is few = rw is (record { ordered = tt; low = tt; high = tt })

pub part-of : (script : Script) (like : Like) (given : Given) → given ≡ given_like script like → lines_in like ≤ most_lines →
    IsPartOfStart given.min given.max
part-of script like given is few = part-at (is_by_numbers script) like given is few
