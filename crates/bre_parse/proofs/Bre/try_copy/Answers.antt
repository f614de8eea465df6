use Rattle.std.proofs.Common.{◌≡◌, ap, subst, sym, ◌∙◌}
use Rattle.bre_parse.specs.Tree.{sequence_of}
use Rattle.bre_parse.specs.Groups.{number_of_groups, refers}
use Rattle.bre_parse.specs.Literal.{literal}
use Rattle.bre_parse.specs.WellFormed.{IsRead}
use Rattle.bre_parse.specs.Bre.{bre_tree}
use Rattle.bre_parse.proofs.Bre.try_copy.Goals as goal

pub invariant_of-result : goal.invariant_of-result
invariant_of-result c =
    let self = c.args.self.now in
    let same : bre_tree self ≡ sequence_of c.in_ok-items.items.items = sym (c.in_ok-items.ensures.value ∙ ap sequence_of c.deref.ensures.value) in
    record {
      read = subst IsRead same self.read;
      counted = self.counted ∙ ap number_of_groups same;
      referring = self.referring ∙ ap refers same;
      word = c.in_ok-literal.ensures.value ∙ self.word ∙ ap literal same;
    }
