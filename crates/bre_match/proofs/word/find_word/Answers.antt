use Rattle.std.proofs.Common.{◌<◌, arith}
use Rattle.std.proofs.lemmas.List.Elements.{All-from_get_or}
use Rattle.std.proofs.Common.{Some, None, ap, ◌∙◌, subst}
use Rattle.std.specs.Prelude.{option_map}
use Rattle.bre_match.specs.Answer.{spans}
use Rattle.bre_parse.proofs.LiteralWays.{literals_match_themselves}
use Rattle.memchr.specs.Find.{FindsNeedle}
use Rattle.std.proofs.Common.{drop}
use Rattle.bre_match.proofs.Words.{word_match, whole_rest}
use Rattle.bre_match.proofs.word.find_word.Goals as goal

pub returns-in_err-passed-clause-value : goal.returns-in_err-passed-clause-value
returns-in_err-passed-clause-value c tree is =
    ap (option_map spans) c.from_residual.ensures
    ∙ word_match literals_match_themselves tree c.args.text.now c.args.word.now c.args.from None is (All-from_get_or (λ byte. byte < 256) c.args.text.now 0 (λ i lt. omega (arith, c.type_inv.text i))) c.requires.place
    (subst (λ o. FindsNeedle (drop c.args.from c.args.text.now) c.args.word.now 0 o) c.in_err-passed.was (subst (λ hay. FindsNeedle hay c.args.word.now 0 c.find.result) (whole_rest c.args.from c.args.text.now) c.find.ensures))

pub returns-clause-value : goal.returns-clause-value
returns-clause-value c tree is =
    word_match literals_match_themselves tree c.args.text.now c.args.word.now c.args.from (Some c.in_ok-passed.passed) is (All-from_get_or (λ byte. byte < 256) c.args.text.now 0 (λ i lt. omega (arith, c.type_inv.text i))) c.requires.place
    (subst (λ o. FindsNeedle (drop c.args.from c.args.text.now) c.args.word.now 0 o) c.in_ok-passed.was (subst (λ hay. FindsNeedle hay c.args.word.now 0 c.find.result) (whole_rest c.args.from c.args.text.now) c.find.ensures))
