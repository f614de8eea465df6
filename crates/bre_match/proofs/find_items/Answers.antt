use Rattle.std.proofs.Common.{ap, sym, ◌∙◌}
use Rattle.bre_parse.specs.Tree.{sequence_of}
use Rattle.bre_parse.specs.Groups.{refers}
use Rattle.bre_parse.specs.Match.{match_from}
use Rattle.bre_match.proofs.Groupless.{match_of_groups, span_leads}
use Rattle.bre_match.proofs.find_items.Goals as goal

pub returns-in_ok-set_row-in-Some-2-clause-value : goal.returns-in_ok-set_row-in-Some-2-clause-value
returns-in_ok-set_row-in-Some-2-clause-value c =
    let t = sequence_of c.items-items.result.now in
    let free = ap refers c.items-items.ensures.value ∙ sym c.refers-refers.ensures.value ∙ c.if-refers.false in
    let span_of = c.in_ok-span.ensures.value in
    match_of_groups t c.args.text.now c.args.from c.in-Some-2.start c.in-Some-2.end c.set_row.new.groups c.in_ok-span.field-0 c.in-Some-2.is span_of
    (c.in_ok-set_row-in-Some-2.ensures.value (span_leads t c.args.text.now c.args.from c.in-Some-2.start c.in-Some-2.end c.in_ok-span.field-0 free c.items-items.ensures.in_order c.in-Some-2.is span_of (rw c.in-Some-2.is at c.in_ok-span.ensures.within).2))
    ∙ ap (λ z. match_from z c.args.text.now c.args.from) c.items-items.ensures.value
