use Rattle.std.proofs.Common.{Some, None, drop, subst, sym}
use Rattle.memchr.specs.Find.{IsFirstByte, is_byte}
use Rattle.bre_match.proofs.Needs.{byte_found}
use Rattle.bre_match.proofs.Words.{whole_rest}
use Rattle.bre_match.proofs.needed.after_byte.Goals as goal

pub returns-in-Some : goal.returns-in-Some
returns-in-Some c = record {
  value =
      sym (byte_found c.args.byte c.args.from (drop c.args.from c.args.text.now) (Some c.in-Some.passed)
      (subst (λ o. IsFirstByte (is_byte c.args.byte) (drop c.args.from c.args.text.now) o) c.in-Some.is (subst (λ hay. IsFirstByte (is_byte c.args.byte) hay c.memchr.result) (whole_rest c.args.from c.args.text.now) c.memchr.ensures)));
}

pub returns-in-None : goal.returns-in-None
returns-in-None c = record {
  value =
      sym (byte_found c.args.byte c.args.from (drop c.args.from c.args.text.now) None
      (subst (λ o. IsFirstByte (is_byte c.args.byte) (drop c.args.from c.args.text.now) o) c.in-None.is (subst (λ hay. IsFirstByte (is_byte c.args.byte) hay c.memchr.result) (whole_rest c.args.from c.args.text.now) c.memchr.ensures)));
}
