use Rattle.std.proofs.Common.{◌<◌, ℕ, All, take}
use Rattle.zones.proofs.Covering.{IsCovered, IsItself}
use Rattle.zones.proofs.kept_zone.entries_cover.Given as goal

abbrev pub invariant-loop-kept : goal.invariant-loop-kept
invariant-loop-kept l = All (IsCovered l.strong) (take l.kept-index l.entries)

abbrev pub invariant-loop-p : goal.invariant-loop-p
invariant-loop-p l = (p : ℕ) → p < l.p → IsItself l.strong l.entries p
