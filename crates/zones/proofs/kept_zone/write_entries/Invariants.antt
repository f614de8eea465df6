use Rattle.std.proofs.Common.{◌≡◌, ◌≤◌, All, take}
use Rattle.zones.specs.Written.{written, IsWithin}
use Rattle.zones.proofs.kept_zone.write_entries.Given as goal

abbrev pub invariant-loop-kept : goal.invariant-loop-kept
invariant-loop-kept l = record {
  written : l.table ≡ written (take l.kept-index l.entries) l.fn.table;
  in_range : l.reach ≤ 32;
  within : All (IsWithin l.reach) (take l.kept-index l.entries);
}
