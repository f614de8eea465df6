-- The draft isn't among those that the loop has passed.
use Rattle.std.proofs.Common.{◌≡◌, drop}
use Rattle.whole.specs.OneFile.{draft_at}
use Rattle.whole.proofs.made_drafts.find.Given as goal

abbrev pub invariant-drafts : goal.invariant-drafts
invariant-drafts l = draft_at l.path l.drafts ≡ draft_at l.path (drop l.draft-index l.drafts)
