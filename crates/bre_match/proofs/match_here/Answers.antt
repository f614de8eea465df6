use Rattle.std.proofs.Common.{subst, sym, ◌∙◌, arith}
use Rattle.bre_parse.specs.Tree.{sequence_of}
use Rattle.bre_match.specs.Meeting.{LeadNowhere}
use Rattle.bre_match.proofs.Starts.{longest_within}
use Rattle.bre_match.proofs.match_here.Goals as goal

pub returns-in-Some-clause-within : goal.returns-in-Some-clause-within
returns-in-Some-clause-within c =
    let w = longest_within (sequence_of c.args.items.now) c.args.text.now c.args.from c.in-Some.way c.requires.place (sym c.in-Some.is ∙ c.in_ok-way.ensures.value) in
    (omega arith, w.0, w.1)

pub longest_from-requires-clause-seen : goal.longest_from-requires-clause-seen
longest_from-requires-clause-seen c =
    subst (λ l. LeadNowhere c.args.items.now c.args.text.now l) (sym c.new-seen.ensures.value) tt
