use Rattle.std.proofs.Common.{ℕ, Option, Some, refl, ap, ◌∙◌}
use Rattle.bre_parse.specs.Tree.{sequence_of}
use Rattle.bre_parse.specs.Groups.{refers}
use Rattle.bre_parse.specs.Match.{match_from}
use Rattle.bre_match.proofs.Groupless.{match_of_groups, span_leads}
use Rattle.bre_match.proofs.searcher.Searcher.find_after.Goals as goal

pub returns-in_ok-set_row-in-At-clause-value : goal.returns-in_ok-set_row-in-At-clause-value
returns-in_ok-set_row-in-At-clause-value c =
    let t = sequence_of c.items-items.result.now in
    let free = ap refers c.items-items.ensures.value ∙ c.args.self.now.learns.free c.requires.general in
    let found = rw c.in-At.is at c.in_ok-span.ensures.found in
    let span : Option (ℕ × ℕ) = Some (c.in-At.start, c.in-At.end) in
    match_of_groups t c.args.text.now c.args.from c.in-At.start c.in-At.end c.set_row.new.groups span refl found.0
    (c.in_ok-set_row-in-At.ensures.value
    (span_leads t c.args.text.now c.args.from c.in-At.start c.in-At.end span free c.items-items.ensures.in_order refl found.0
    found.1.2))
    ∙ ap (λ z. match_from z c.args.text.now c.args.from) c.items-items.ensures.value
