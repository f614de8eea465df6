use Rattle.std.proofs.Common.{◌≡◌, length, take}
use Rattle.ed_base.specs.Lines.{lines_of}
use Rattle.landmarks.specs.Places.{AreAt, last_of}
use Rattle.landmarks.proofs.places.find_places.Given as goal

-- the landmarks before this one have their places, of which the last one is kept
abbrev pub invariant-loop-landmark : goal.invariant-loop-landmark
invariant-loop-landmark l = record {
  placed : AreAt (lines_of l.file) 0 (take l.landmark-index l.chain) l.places.items;
  last_place : last_of 0 l.places.items ≡ l.before;
  counted : length l.places.items ≡ l.landmark-index;
}
