use Rattle.std.proofs.Common.{◌≡◌, drop}
use Rattle.std.specs.List.{list_all}
use Rattle.cert_check.specs.checker.Valid.{is_listed}
use Rattle.cert_check.proofs.checker.passing.are_all_listed.Given as goal

-- the paths before this one are listed
abbrev pub invariant-loop-path : goal.invariant-loop-path
invariant-loop-path l = list_all (is_listed l.writes) l.paths ≡ list_all (is_listed l.writes) (drop l.path-index l.paths)
