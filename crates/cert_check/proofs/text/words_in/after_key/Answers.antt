use Rattle.std.proofs.lemmas.Bool.Decides.{Decides-eqb}
use Rattle.std.proofs.lemmas.Slice.Eq.{strip_prefix_is}
use Rattle.cert_check.proofs.text.words_in.after_key.Goals as goal

pub returns : goal.returns
returns c = record { cases = strip_prefix_is Decides-eqb c.args.line.now c.args.key.now c.strip_prefix.result c.strip_prefix.ensures.cases }
