use Rattle.zones.proofs.Rooms.{total_room-covers, total_room-weakened, total_room-not_covered}
use Rattle.zones.proofs.laws.room_falls.Goals as goal

pub returns : goal.returns
returns c = record {
  no_more = total_room-covers;
  at_a_pair = total_room-weakened;
  unless_covered = total_room-not_covered;
}
