use Rattle.zones.proofs.Clamps.{after_guard-clamp, after_set-clamp, after_shift-clamp}
use Rattle.zones.proofs.laws.offsets_may_be_clamped.Goals as goal

pub returns : goal.returns
returns c = record {
  guard = after_guard-clamp;
  set = after_set-clamp;
  shift = after_shift-clamp;
}
