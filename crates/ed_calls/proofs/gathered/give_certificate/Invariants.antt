-- The state of the sink before the text is what it is at the call.
use Rattle.ed_calls.proofs.gathered.give_certificate.Given as goal

abbrev pub ghosts-give_through : goal.ghosts-give_through
ghosts-give_through g a = record { state = g.W.Sink.state a.sink.now }
