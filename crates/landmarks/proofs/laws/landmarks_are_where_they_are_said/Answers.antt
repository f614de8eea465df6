use Rattle.landmarks.proofs.Started.{started-holds, each-inside}
use Rattle.landmarks.proofs.Marked.{are-marked}
use Rattle.landmarks.proofs.laws.landmarks_are_where_they_are_said.Goals as goal

pub returns : goal.returns
returns c = record { start = started-holds; inside = each-inside; marked = are-marked }
