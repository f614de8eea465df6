use Rattle.std.proofs.Common.{◌≡◌, drop}
use Rattle.std.specs.List.{list_all}
use Rattle.hints.specs.StartWords.{is_bare}
use Rattle.hints.proofs.landmark_words.are_bare.Given as goal

abbrev pub invariant-loop-landmark : goal.invariant-loop-landmark
invariant-loop-landmark l = list_all is_bare l.landmarks ≡ list_all is_bare (drop l.landmark-index l.landmarks)
