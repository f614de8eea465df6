-- The start has the bounds and the path that are given.
use Rattle.std.proofs.Common.{◌≡◌, true, sym, subst}
use Rattle.ed_main.specs.Starts.{AreStarts}
use Rattle.ed_main.specs.Words.{is_path}
use Rattle.ed_main.proofs.StartLemmas.{starts_given}
use Rattle.ed_main.proofs.words.starts.stated_in.Goals as goal

pub returns-clause-given : goal.returns-clause-given
returns-clause-given c =
    let named : is_path c.in_ok-file.file ≡ true = rw c.in_ok-file.ensures.value c.requires.named in
    subst AreStarts (sym c.starts_of.ensures.value) (starts_given c.in_ok-file.file c.in-Some.least c.in-Some-most_in.most c.in_ok-has.has
    (sym c.if-not-are_in_order.ensures.value) c.in-Some.ensures.few c.in-Some-most_in.ensures.few named)
