-- The start has the path that is given.
use Rattle.std.proofs.Common.{◌≡◌, true, sym, subst}
use Rattle.ed_main.specs.Starts.{AreStarts}
use Rattle.ed_main.specs.Words.{is_path}
use Rattle.ed_main.proofs.StartLemmas.{any_given, path_has_bytes}
use Rattle.ed_main.proofs.words.editing.judged_if.Goals as goal

pub returns-in_ok-from_slice-in-Some-clause-given : goal.returns-in_ok-from_slice-in-Some-clause-given
returns-in_ok-from_slice-in-Some-clause-given c =
    let named : is_path c.in_ok-path.path ≡ true = rw c.in_ok-path.ensures.value c.requires.named in
    path_has_bytes _ named

pub returns-in_ok-at-in-None-clause-given : goal.returns-in_ok-at-in-None-clause-given
returns-in_ok-at-in-None-clause-given c =
    let named : is_path c.in_ok-path.path ≡ true = rw c.in_ok-path.ensures.value c.requires.named in
    subst AreStarts (sym c.any_start.ensures.value) (any_given _ _ named)
